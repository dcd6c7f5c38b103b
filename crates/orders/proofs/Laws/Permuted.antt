-- What a list's elements do one after the other they do in any order, if any two of them may change places.
use Rattle.std.specs.Prelude.{◌≡◌, refl}
use Rattle.std.proofs.Common.{ap, ◌∙◌}
use mathlib.Core.List.Permᴰ
use mathlib.Core.List.{List, foldl, Mem, mem-cons_self, mem-cons_of_mem, Permᴰ}

module _ {A B : Type 0} (act : B → A → B) where
  -- any two elements of a list may change places
  abbrev pub Commute : List A → Type 0
  Commute l = (x y : A) → Mem x l → Mem y l → (b : B) → act (act b x) y ≡ act (act b y) x

  pub permuted : {l m : List A} → Permᴰ l m → Commute l → (b : B) → foldl act b l ≡ foldl act b m
  permuted Permᴰ.nil h b = refl
  permuted (Permᴰ.cons {a = x} {b = y} {l₁ = l} e p) h b =
      ap (λ (z : A). foldl act (act b z) l) e
      ∙ permuted p (λ u v i j. h u v (mem-cons_of_mem x i) (mem-cons_of_mem x j)) (act b y)
  permuted (Permᴰ.swap {a = x} {b = y} {l = l} e f) h b =
      ap (λ (c : B). foldl act c l) (h x y mem-cons_self (mem-cons_of_mem x mem-cons_self) b) ∙ rw (e, f) refl
  permuted (Permᴰ.trans p q) h b =
      permuted p h b ∙ permuted q (λ x y i j. h x y (Permᴰ.mem (Permᴰ.symm p) i) (Permᴰ.mem (Permᴰ.symm p) j)) b

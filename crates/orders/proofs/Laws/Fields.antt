-- Of lists joined one after the other two that are exchanged stand exchanged.
use Prim.Native.Nat.{ℕ, zero, suc, ◌+◌}
use Rattle.std.specs.Prelude.{◌≡◌, List, ◌++◌}
use Rattle.std.proofs.Common.{sym, ap, ◌∙◌, append-nil, append_assoc, add-zero}
use native.Mathlib.Omega.{arith}
use Rattle.numbers.specs.Lists.{each}
use Rattle.numbers.specs.Laws.Lists.{each_more}
use Rattle.numbers.specs.Laws.Joins.{each_same}
use Rattle.orders.specs.Exchanges.{Exchanged}

module _ {A : Type 0} (f : ℕ → List A) where
  -- the first n, and those after them
  each_from : (n d : ℕ) → each (n + d) f ≡ each n f ++ each d (λ (j : ℕ). f (n + j))
  unfolding each
  each_from n zero = rw (add-zero n) (sym (append-nil (each n f)))
  each_from n (suc d) =
      let e : n + suc d ≡ suc (n + d) = omega arith in
      rw (e, each_from n d) (append_assoc (each n f) (each d (λ (j : ℕ). f (n + j))) (f (n + d)))

  -- number k, the one after it, and d more
  each_two : (k d : ℕ) → each (k + 1 + 1 + d) f ≡ each k f ++ f k ++ f (k + 1) ++ each d (λ (j : ℕ). f (k + 1 + 1 + j))
  each_two k d = rw (each_from (k + 1 + 1) d, each_more (k + 1) f, each_more k f)

module _ {A : Type 0} (k d : ℕ) (f g : ℕ → List A) (first : g k ≡ f (k + 1)) (second : g (k + 1) ≡ f k)
    (others : (i : ℕ) → (i ≡ k → ⊥) → (i ≡ k + 1 → ⊥) → g i ≡ f i) where
  abbrev after : List A
  after = each d (λ (j : ℕ). f (k + 1 + 1 + j))

  pub each_exchanged : (head : List A) → Exchanged (head ++ each (k + 1 + 1 + d) f) (head ++ each (k + 1 + 1 + d) g) (f k) (f (k + 1))
  each_exchanged head =
      let before = each_same k g f (λ i l. others i (λ e. omega arith) (λ e. omega arith)) in
      let rest = each_same d (λ (j : ℕ). g (k + 1 + 1 + j)) (λ (j : ℕ). f (k + 1 + 1 + j)) (λ j l. others (k + 1 + 1 + j) (λ e. omega arith) (λ e. omega arith)) in
      let joined : (x y : List A) → head ++ (each k f ++ x ++ y ++ after) ≡ head ++ each k f ++ x ++ y ++ after =
      λ x y.
      sym (append_assoc head (each k f ++ x ++ y) after)
      ∙ ap (λ (l : List A). l ++ after) (sym (append_assoc head (each k f ++ x) y) ∙ ap (λ (l : List A). l ++ y) (sym (append_assoc head (each k f) x))) in
      record {
        before = head ++ each k f;
        after = after;
        was = rw (each_two f k d) (joined (f k) (f (k + 1)));
        is = rw (each_two g k d, before, rest, first, second) (joined (f (k + 1)) (f k));
      }

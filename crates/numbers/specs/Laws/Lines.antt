-- Laws of `line`: what stands inside and outside, lines joined, equal lines, lines apart.
use Rattle.std.specs.Prelude.{◌≡◌, ◌≢◌, length}
use Rattle.std.proofs.Math.Path.{refl, ap, ap₂}
use Rattle.std.proofs.Common.{◌∙◌, get_or-set_same}
use mathlib.Core.List.{List}
use Prim.Native.Nat.{ℕ, zero, suc, ◌+◌, ◌<◌, ◌≤◌}
use Rattle.std.proofs.Math.Nat.{add-zero, add_assoc}
use Rattle.std.proofs.Math.Decide.{ℕ_discrete}
use native.Mathlib.Omega.{arith}
use Rattle.std.proofs.Math.ListN.{get_or, set}
use Rattle.std.proofs.Math.Seq.{get_or-set_other, set_comm}
use Rattle.numbers.specs.Lists.{line}
use Rattle.numbers.specs.Laws.Lists.{line_more, length_line}

module _ {A : Type 0} where
  -- a line leaves every place outside it
  pub line_outside : (d : List A) (p : ℕ) (g : ℕ → A) (n k : ℕ) (z : A) → ((i : ℕ) → i < n → k ≢ p + i) → get_or (line d p g n) k z ≡ get_or d k z
  unfolding line
  line_outside d p g zero k z h = refl
  line_outside d p g (suc n) k z h =
      get_or-set_other (line d p g n) (p + n) k (g n) z (h n (omega arith)) ∙ line_outside d p g n k z (λ i l. h i (omega arith))

  -- and has its elements inside
  pub line_inside : (d : List A) (p : ℕ) (g : ℕ → A) (n i : ℕ) (z : A) → i < n → p + n ≤ length d → get_or (line d p g n) (p + i) z ≡ g i
  unfolding line
  line_inside d p g zero i z l h = absurd (omega arith)
  line_inside d p g (suc n) i z l h = go (ℕ_discrete i n) (λ m. line_inside d p g n i z m (omega arith))
    where
      go : Dec (i ≡ n) → (i < n → get_or (line d p g n) (p + i) z ≡ g i) → get_or (set (line d p g n) (p + n) (g n)) (p + i) z ≡ g i
      go (yes e) ih = rw e (get_or-set_same (line d p g n) (p + n) (g n) z (omega (arith, length_line d p g n)))
      go (no f) ih = get_or-set_other (line d p g n) (p + n) (p + i) (g n) z (λ e. f (omega arith)) ∙ ih (omega arith)

  -- lines of equal elements are equal
  pub line_same : (d : List A) (p : ℕ) (g h : ℕ → A) (n : ℕ) → ((i : ℕ) → i < n → g i ≡ h i) → line d p g n ≡ line d p h n
  unfolding line
  line_same d p g h zero e = refl
  line_same d p g h (suc n) e =
      ap₂ (λ (l : List A) (x : A). set l (p + n) x) (line_same d p g h n (λ i l. e i (omega arith))) (e n (omega arith))

  -- a line that goes on where another ends
  pub line_joined : (d : List A) (p : ℕ) (g : ℕ → A) (m n : ℕ) → line (line d p g m) (p + m) (λ (i : ℕ). g (m + i)) n ≡ line d p g (m + n)
  unfolding line
  line_joined d p g m zero = rw add-zero
  line_joined d p g m (suc n) =
      let e : m + suc n ≡ suc (m + n) = omega arith in
      rw (e, add_assoc p m n) (ap (λ (l : List A). set l (p + (m + n)) (g (m + n))) (line_joined d p g m n))

  -- a store outside a line may come first
  pub set_line : (d : List A) (p : ℕ) (g : ℕ → A) (n k : ℕ) (x : A) → ((i : ℕ) → i < n → p + i ≢ k) → set (line d p g n) k x ≡ line (set d k x) p g n
  unfolding line
  set_line d p g zero k x h = refl
  set_line d p g (suc n) k x h =
      set_comm (line d p g n) (p + n) k (g n) x (h n (omega arith))
      ∙ ap (λ (l : List A). set l (p + n) (g n)) (set_line d p g n k x (λ i l. h i (omega arith)))

  -- two lines apart may be written in either order
  pub lines_apart : (d : List A) (p q : ℕ) (g h : ℕ → A) (m n : ℕ) → ((i j : ℕ) → i < m → j < n → p + i ≢ q + j)
      → line (line d p g m) q h n ≡ line (line d q h n) p g m
  unfolding line
  lines_apart d p q g h m zero e = refl
  lines_apart d p q g h m (suc n) e =
      ap (λ (l : List A). set l (q + n) (h n)) (lines_apart d p q g h m n (λ i j k l. e i j k (omega arith)))
      ∙ set_line (line d q h n) p g m (q + n) (h n) (λ i l. e i n l (omega arith))

  -- one more element, as a loop writes it
  pub line_next : (d : List A) (p : ℕ) (g : ℕ → A) (n : ℕ) {out : List A} {x : A} → out ≡ line d p g n → x ≡ g n → set out (p + n) x ≡ line d p g (n + 1)
  line_next d p g n e f = ap₂ (λ (l : List A) (x : A). set l (p + n) x) e f ∙ line_more d p g n

-- What the search of refusal 15 tells.
use Prim.Native.Nat.{ℕ, zero, suc, ◌+◌, ◌<◌, ◌≤◌}
use Rattle.std.specs.Prelude.{◌≡◌, Bool, true, false, eqb}
use Rattle.std.proofs.Math.Path.{refl, sym, ap}
use Rattle.std.proofs.Common.{◌∙◌, not-suc-le-zero, add-zero, arith}
use Rattle.std.proofs.Math.Bool.{true≢false, not}
use borrow.Author.Tests.{eqb-true, eqb-false, not-true}
use Rattle.numbers.specs.Choice.{pick}
use Rattle.numbers.specs.Laws.All.{all_at, all_true}
use Rattle.numbers.specs.Laws.Choice.{by_test, by_order}
use Rattle.clashes.specs.Clashes.{meets, clash_from, apart}

-- an element that meets none of the first n has another byte than each
pub meets_none_of : (same : ℕ → ℕ → Bool) (i n : ℕ) → meets same i n ≡ false → (j : ℕ) → j < n → same j i ≡ false
unfolding meets pick
meets_none_of same i zero e j h = absurd (not-suc-le-zero h)
meets_none_of same i (suc n) e j h =
    by_test (same n i) (λ t. absurd (true≢false (rw t at e)))
    (λ t. by_test (eqb j n) (λ q. rw (eqb-true j n q) t)
    (λ q. let d : j ≡ n → ⊥ = eqb-false j n q in meets_none_of same i n (rw t at e) j (omega arith)))

-- no element meets an earlier one where the search ends past the last
pub none_clash : (same : ℕ → ℕ → Bool) (i m : ℕ) → i + m ≤ clash_from same i m → (k : ℕ) → i ≤ k → k < i + m → meets same k k ≡ false
unfolding clash_from pick
none_clash same i zero e k h l = absurd (omega arith)
none_clash same i (suc m) e k h l =
    by_test (meets same i i) (λ t. let z : i + suc m ≤ i = rw t at e in absurd (omega arith))
    (λ t. by_test (eqb k i) (λ q. rw (eqb-true k i q) t)
    (λ q.
    let d : k ≡ i → ⊥ = eqb-false k i q in
    let s : suc i + m ≡ i + suc m = omega arith in
    none_clash same (suc i) m (rw s (rw t at e)) k (omega arith) (omega arith)))

-- the search goes by nothing else than which two elements have the same byte
module _ (same other : ℕ → ℕ → Bool) (m : ℕ) (agree : (i j : ℕ) → i < m → j < m → same i j ≡ other i j) where
  meets_same : (i j : ℕ) → i < m → j ≤ m → meets same i j ≡ meets other i j
  unfolding meets
  meets_same i zero h l = refl
  meets_same i (suc j) h l = rw (agree j i l h, meets_same i j h (omega arith))

  pub clash_same : (i n : ℕ) → i + n ≤ m → clash_from same i n ≡ clash_from other i n
  unfolding clash_from
  clash_same i zero h = refl
  clash_same i (suc n) h = rw (meets_same i i (omega arith) (omega arith), clash_same (suc i) n (omega arith))

-- the search finds an element where not all are apart, and none where they are
module _ (same : ℕ → ℕ → Bool) where
  none_found : (i m : ℕ) → ((k : ℕ) → i ≤ k → k < i + m → meets same k k ≡ false) → clash_from same i m ≡ i + m
  unfolding clash_from pick
  none_found i zero h = sym (add-zero i)
  none_found i (suc m) h =
      rw (h i (omega arith) (omega arith))
      (none_found (suc i) m (λ k l g. h k (omega arith) (omega arith)) ∙ omega arith)

  pub apart_none : (m : ℕ) → apart same m ≡ true → m ≤ clash_from same 0 m
  unfolding apart
  apart_none m e =
      omega (arith, none_found 0 m (λ k l g. not-true _ (all_at m (λ (i : ℕ). not (meets same i i)) e k (omega arith))))

  found_before : (i m k : ℕ) → i ≤ k → k < i + m → meets same k k ≡ true → clash_from same i m ≤ k
  unfolding clash_from pick
  found_before i zero k l g e = absurd (omega arith)
  found_before i (suc m) k l g e =
      by_test (meets same i i) (λ t. rw t l)
      (λ t. let d : k ≡ i → ⊥ = λ q. true≢false (sym e ∙ ap (λ (j : ℕ). meets same j j) q ∙ t) in rw t (found_before (suc i) m k (omega arith) (omega arith) e))

  -- and where not all are apart, it finds one
  pub apart_found : (m : ℕ) → apart same m ≡ false → clash_from same 0 m < m
  unfolding apart
  apart_found m e =
      by_order (clash_from same 0 m) m (λ l. l)
      (λ l. absurd (true≢false (sym (all_true m (λ (i : ℕ). not (meets same i i))
      (λ k h. by_test (meets same k k) (λ t. let b : clash_from same 0 m ≤ k = found_before 0 m k (omega arith) (omega arith) t in absurd (omega arith)) (λ t. rw t))) ∙ e)))

-- Laws of the first number that passes a test.
use Prim.Native.Nat.{ℕ, zero, suc, ◌+◌, ◌-◌, ◌<◌, ◌≤◌}
use Rattle.std.specs.Prelude.{◌≡◌, Bool, true, false}
use Rattle.std.proofs.Common.{sym, ◌∙◌, add-zero, add-one}
use native.Mathlib.Omega.{arith}
use Rattle.numbers.specs.Choice.{pick}
use Rattle.numbers.specs.Laws.Choice.{by_test, by_place}
use Rattle.numbers.specs.First.{first_from}

-- one turn of the loop, of n numbers
module _ (test : ℕ → Bool) (k n : ℕ) where
  pub first_found : k < n → test k ≡ true → first_from test k (n - k) ≡ k
  unfolding first_from pick
  first_found l t = let e : n - k ≡ suc (n - (k + 1)) = omega arith in rw (e, t)

  pub first_next : k < n → test k ≡ false → first_from test k (n - k) ≡ first_from test (k + 1) (n - (k + 1))
  unfolding first_from pick
  first_next l t = let e : n - k ≡ suc (n - (k + 1)) = omega arith in rw (e, t, add-one)

  pub first_end : n ≤ k → first_from test k (n - k) ≡ k
  unfolding first_from
  first_end l = let e : n - k ≡ 0 = omega arith in rw e

-- where no test is true
pub first_none : (test : ℕ → Bool) (k m : ℕ) → ((i : ℕ) → k ≤ i → i < k + m → test i ≡ false) → first_from test k m ≡ k + m
unfolding first_from pick
first_none test k zero h = sym (add-zero k)
first_none test k (suc m) h =
    rw (h k (omega arith) (omega arith))
    (first_none test (suc k) m (λ i l u. h i (omega arith) (omega arith)) ∙ (let e : suc k + m ≡ k + suc m = omega arith in e))

-- the numbers before the first fail the test
pub first_before : (test : ℕ → Bool) (k m : ℕ) (i : ℕ) → k ≤ i → i < first_from test k m → test i ≡ false
unfolding first_from pick
first_before test k zero i l u = absurd (omega arith)
first_before test k (suc m) i l u =
    by_test (test k) (λ t. let z : i < k = rw t at u in absurd (omega arith))
    (λ t.
    by_place i k (λ e. rw e t)
    (λ d. first_before test (suc k) m i (omega arith) (rw t at u)))

-- and the first passes it
pub first_passes : (test : ℕ → Bool) (k m : ℕ) → first_from test k m < k + m → test (first_from test k m) ≡ true
unfolding first_from pick
first_passes test k zero h = absurd (omega (arith, add-zero k))
first_passes test k (suc m) h =
    by_test (test k) (λ t. rw t t)
    (λ t.
    let z : first_from test (suc k) m < k + suc m = rw t at h in
    let y : first_from test (suc k) m < suc k + m = omega arith in
    rw t (first_passes test (suc k) m y))

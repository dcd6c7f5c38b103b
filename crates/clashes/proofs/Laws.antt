-- Laws of the search of refusal 15, as the loops go.
use Prim.Native.Nat.{ℕ, zero, suc, ◌+◌, ◌-◌, ◌<◌, ◌≤◌}
use mathlib.Core.Path.{◌≡◌, refl, sym, ap, ◌∙◌}
use mathlib.Core.Bool.{Bool, true, false, not}
use mathlib.Core.List.{List}
use native.Mathlib.Nat.{not-suc-le-zero}
use native.Mathlib.Numerals.{add-one}
use native.Mathlib.Omega.{arith}
use lib.ListN.{get_or}
use Rattle.numbers.specs.Choice.{pick}
use Rattle.numbers.specs.Laws.All.{all_none, all_more}
use Rattle.numbers.specs.Laws.Choice.{by_test}
use Rattle.clashes.specs.Clashes.{meets, clash_from, apart}
use Rattle.clashes.specs.Entries.{hits, same_entry}

module _ (same : ℕ → ℕ → Bool) where
  pub meets_none : (i : ℕ) → meets same i 0 ≡ false
  unfolding meets
  meets_none i = refl

  pub meets_miss : (i j : ℕ) → same j i ≡ false → meets same i j ≡ false → meets same i (j + 1) ≡ false
  unfolding meets pick
  meets_miss i j e g = rw (add-one, e) g

  meets_hit : (i j n : ℕ) → j < n → same j i ≡ true → meets same i n ≡ true
  unfolding meets pick
  meets_hit i j zero h e = absurd (not-suc-le-zero h)
  meets_hit i j (suc n) h e =
      by_test (same n i) (λ t. rw t)
      (λ g. let d : j ≡ n → ⊥ = λ q. let z : ◌≡◌ {A = ℕ} 0 1 = cc in omega arith in rw g (meets_hit i j n (omega arith) e))

  clash_here : (i m : ℕ) → 0 < m → meets same i i ≡ true → clash_from same i m ≡ i
  unfolding clash_from pick
  clash_here i zero h e = absurd (not-suc-le-zero h)
  clash_here i (suc m) h e = rw e

  clash_next : (i m : ℕ) → 0 < m → meets same i i ≡ false → clash_from same (i + 1) (m - 1) ≡ clash_from same i m
  unfolding clash_from pick
  clash_next i zero h e = absurd (not-suc-le-zero h)
  clash_next i (suc m) h e = let s : suc m - 1 ≡ m = omega arith in rw (add-one, s, e)

  clash_end : (i m : ℕ) → m ≤ 0 → clash_from same i m ≡ i
  unfolding clash_from
  clash_end i zero h = refl
  clash_end i (suc m) h = absurd (not-suc-le-zero h)

  -- what the outer loop knows at i is known at i + 1 where no earlier element was met, and settles the answer where one was
  module _ (m i : ℕ) (inv : clash_from same i (m - i) ≡ clash_from same 0 m) where
    pub clash_on : (j : ℕ) → i < m → j ≤ i → i ≤ j → meets same i j ≡ false → clash_from same (i + 1) (m - (i + 1)) ≡ clash_from same 0 m
    clash_on j h g k e =
        let s : m - (i + 1) ≡ m - i - 1 = omega arith in
        let q : i ≡ j = omega arith in
        rw s (clash_next i (m - i) (omega arith) (ap (meets same i) q ∙ e) ∙ inv)

    pub clash_found : (j : ℕ) → i < m → j < i → same j i ≡ true → i ≡ clash_from same 0 m
    clash_found j h l e = sym (clash_here i (m - i) (omega arith) (meets_hit i j i l e)) ∙ inv

    pub clash_none : m ≤ i → i ≡ clash_from same 0 m
    clash_none h = sym (clash_end i (m - i) (omega arith)) ∙ inv

  -- none of the first k elements has an earlier one's byte
  pub apart_start : apart same 0 ≡ true
  unfolding apart
  apart_start = all_none _

  pub apart_more : (k : ℕ) → apart same k ≡ true → meets same k k ≡ false → apart same (k + 1) ≡ true
  unfolding apart
  apart_more k e g = all_more k (λ (i : ℕ). not (meets same i i)) e (rw g)

  pub apart_end : {k m : ℕ} → k ≤ m → m ≤ k → apart same k ≡ true → apart same m ≡ true
  apart_end {k} {m} h l e = let q : k ≡ m = omega arith in rw q at e

-- one of the first k entries is the byte of x
unfoldable pub seen : List ℕ → ℕ → ℕ → Bool
seen entries x zero = false
seen entries x (suc k) = pick (hits (get_or entries k 0) x) true (seen entries x k)

pub seen_meets : (entries : List ℕ) (i k : ℕ) → meets (same_entry entries) i k ≡ seen entries (get_or entries i 0) k
unfolding meets seen
seen_meets entries i zero = refl
seen_meets entries i (suc k) = rw (seen_meets entries i k)

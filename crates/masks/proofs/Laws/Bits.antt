-- The bits of a step's mask: 0 and 1, as the entries of a survey say, and set as many as elements have a byte.
use Rattle.std.specs.Prelude.{ℕ, zero, suc, ◌+◌, ◌<◌, ◌≤◌, ◌≡◌, refl, List, [], ◌∷◌, eqb, ltb, length, get_or}
use Rattle.std.proofs.Common.{zero-le, ap, ◌∙◌, add-zero, le_refl, le_of_suc-le-suc, not-suc-le-zero, arith, lt-ltb, le-ltb, ltb-true, ltb-false}
use Rattle.std.proofs.Math.ListN.{get_or-eq_default}
use Rattle.numbers.specs.Choice.{pick}
use Rattle.numbers.specs.Laws.Choice.{pick_case, by_test}
use Rattle.outcomes.specs.declared.Outcome.{Outcome}
use Rattle.outcomes.specs.declared.Outcome.TheVariants.{Skipped, Filled, Discarded, Placed}
use Rattle.clashes.specs.Entries.{filled_entry}
use Rattle.accesses.specs.Refusals.{placed_one}
use Rattle.accesses.specs.Entries.{entry_outcome}
use Rattle.masks.specs.Masks.{bit_of, sum_of}
use Rattle.masks.specs.Entries.{entry_one, entry_bit}
use Rattle.masks.specs.Placed.{placed_in}
use Rattle.masks.proofs.Laws.Packed.{Bits}

one_most : (o : Outcome) → placed_one o ≤ 1
one_most Skipped = zero-le
one_most (Filled bits) = zero-le
one_most Discarded = zero-le
one_most (Placed byte) = le_refl 1

pub outcome_bits : (os : List Outcome) → Bits (bit_of os)
unfolding bit_of
outcome_bits os e = one_most (get_or os e Skipped)

pub entry_bits : (entries : List ℕ) (n : ℕ) → Bits (entry_bit entries n)
unfolding entry_bit
entry_bits entries n e = pick_case (λ (x : ℕ). x ≤ 1) (ltb e n) (entry_one (get_or entries e 0)) 0 (λ t. one_most (entry_outcome 0 (get_or entries e 0))) (λ t. zero-le)

-- one of n, and one past them
pub entry_inside : (entries : List ℕ) (n e : ℕ) → e < n → entry_bit entries n e ≡ entry_one (get_or entries e 0)
unfolding entry_bit pick
entry_inside entries n e h = rw (lt-ltb e n h)

pub entry_past : (entries : List ℕ) (n e : ℕ) → n ≤ e → entry_bit entries n e ≡ 0
unfolding entry_bit pick
entry_past entries n e h = rw (le-ltb e n h)

-- what filled elements take does not matter
any_fill : (fill x : ℕ) → entry_one x ≡ placed_one (entry_outcome fill x)
unfolding entry_outcome pick
any_fill fill x =
    by_test (eqb x 0) (λ t. rw t)
    (λ t. by_test (ltb x filled_entry) (λ u. rw (t, u)) (λ u. by_test (eqb x filled_entry) (λ v. rw (t, u, v)) (λ v. rw (t, u, v))))

-- entries that stand for the outcomes of a step give its bits
pub entries_bit : (entries : List ℕ) (fill : ℕ) (os : List Outcome)
    → ((e : ℕ) → e < length os → entry_outcome fill (get_or entries e 0) ≡ get_or os e Skipped) → (e : ℕ) → entry_bit entries (length os) e ≡ bit_of os e
unfolding entry_bit bit_of pick
entries_bit entries fill os h e =
    by_test (ltb e (length os))
    (λ t. rw t (any_fill fill (get_or entries e 0) ∙ ap placed_one (h e (ltb-true e (length os) t))))
    (λ t. rw (t, get_or-eq_default os Skipped (ltb-false e (length os) t)))

-- ---- how many are set

-- none of a step without outcomes
pub no_bits : (n : ℕ) → sum_of (bit_of []) n ≡ 0
unfolding sum_of bit_of
no_bits zero = refl
no_bits (suc n) = rw (no_bits n) refl

-- the first, and the others
sum_first : (f : ℕ → ℕ) (n : ℕ) → sum_of f (suc n) ≡ f 0 + sum_of (λ (e : ℕ). f (suc e)) n
unfolding sum_of
sum_first f zero = omega arith
sum_first f (suc n) = omega (arith, sum_first f n)

pub placed_bits : (os : List Outcome) (n : ℕ) → length os ≤ n → sum_of (bit_of os) n ≡ placed_in os
unfolding bit_of placed_in
placed_bits [] n h = no_bits n
placed_bits (o ∷ os) zero h = absurd (not-suc-le-zero h)
placed_bits (o ∷ os) (suc n) h = sum_first (bit_of (o ∷ os)) n ∙ ap (λ (k : ℕ). placed_one o + k) (placed_bits os n (le_of_suc-le-suc h))

-- past them there is none more
pub sum_past : (f : ℕ → ℕ) (n m : ℕ) → ((k : ℕ) → n ≤ k → f k ≡ 0) → sum_of f (n + m) ≡ sum_of f n
unfolding sum_of
sum_past f n zero none = rw (add-zero n)
sum_past f n (suc m) none =
    let e : n + suc m ≡ suc (n + m) = omega arith in
    rw (e, none (n + m) (omega arith)) (omega (arith, sum_past f n m none))

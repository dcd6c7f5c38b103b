-- What the masks say. An area into which the masks of all steps were written, of steps with at most 256 outcomes each: a bit is set
-- exactly where the element has a byte, and a step's count is the number of its elements with a byte.
use Prim.Native.Nat.{ℕ, zero, suc, ◌+◌, ◌-◌, ◌*◌, ◌/◌, ◌%◌, ◌^◌, ◌<◌, ◌≤◌}
use Rattle.std.specs.Prelude.{◌≡◌, Bool, true, false, List, ◌++◌, eqb, ltb, length, get_or, drop}
use Rattle.std.proofs.Math.Path.{refl, ap, ap₂}
use Rattle.std.proofs.Common.{sym, ◌∙◌, get_or-append-add, get_or-drop}
use Rattle.std.proofs.Math.Nat.{zero-div}
use native.Mathlib.Omega.{arith}
use borrow.Author.Tests.{lt-ltb, le-ltb}
use Rattle.std.proofs.Math.ListN.{get_or-append, get_or-eq_default}
use Rattle.std.proofs.lemmas.List.Edits.{sets, sets-eq}
use Rattle.numbers.specs.Choice.{pick, both}
use Rattle.numbers.specs.Little.{u16_at, u16_bytes}
use Rattle.numbers.specs.Laws.Choice.{stop, by_order}
use Rattle.numbers.specs.Laws.Joins.{each_part, each_at}
use Rattle.sheet.specs.Sizes.{matrix_places, step_places}
use Rattle.outcomes.specs.declared.Outcome.{Outcome}
use Rattle.outcomes.specs.declared.Outcome.TheVariants.{Skipped, Filled, Discarded, Placed}
use Rattle.accesses.specs.Refusals.{placed_one}
use Rattle.masks.specs.Masks.{bit_bytes, mask_bytes, mask_area, bit_of, packed, sum_of, mask_of, masks_of, mask_place, touched}
use Rattle.masks.specs.Placed.{has_byte, placed_in, count_at}
use Rattle.masks.proofs.Laws.Packed.{packed_bit}
use Rattle.masks.proofs.Laws.Bits.{outcome_bits, placed_bits}
use Rattle.masks.proofs.Laws.Written.{bits, length_bits, length_mask, length_masks}

-- ---- one mask

module _ (bit : ℕ → ℕ) where
  mask_bits : (j : ℕ) → j < bit_bytes → get_or (mask_of bit) j 0 ≡ packed bit (8 * j) 8
  unfolding mask_of
  mask_bits j h =
      get_or-append (bits bit bit_bytes) (u16_bytes (sum_of bit matrix_places)) 0 j (rw (length_bits bit bit_bytes) h)
      ∙ each_at bit_bytes (λ (k : ℕ). packed bit (8 * k) 8) j 0 h

  mask_count : (j : ℕ) → get_or (mask_of bit) (bit_bytes + j) 0 ≡ get_or (u16_bytes (sum_of bit matrix_places)) j 0
  unfolding mask_of
  mask_count j = rw (length_bits bit bit_bytes) at (get_or-append-add (bits bit bit_bytes) (u16_bytes (sum_of bit matrix_places)) j 0)

-- ---- where the answer is no

none : (a : Bool) → both a false ≡ false
unfolding both pick
none true = refl
none false = refl

module _ (masks : List ℕ) (step e : ℕ) where
  -- a step past the last of 32
  pub touched_steps : step_places ≤ step → touched masks step e ≡ false
  unfolding touched both pick
  touched_steps h = rw (le-ltb step step_places h) refl

  -- an element past the last of 256
  pub touched_past : matrix_places ≤ e → touched masks step e ≡ false
  unfolding touched
  touched_past h = rw (le-ltb e matrix_places h) (ap (both (ltb step step_places)) (sym (stop _ refl)) ∙ none (ltb step step_places))

  -- a byte past what is lent
  pub touched_short : length masks ≤ mask_place step + e / 8 → touched masks step e ≡ false
  unfolding touched
  touched_short h =
      rw (get_or-eq_default masks 0 h, zero-div (2 ^ (e % 8)), none (ltb e matrix_places)) (none (ltb step step_places))

-- ---- the whole area

one_byte : (o : Outcome) → eqb (placed_one o) 1 ≡ has_byte o
one_byte Skipped = refl
one_byte (Filled bits) = refl
one_byte Discarded = refl
one_byte (Placed byte) = refl

-- an area with the masks of all steps, written from its start on
module _ (os : ℕ → List Outcome) (masks area : List ℕ) (room : mask_area ≤ length masks) (is : area ≡ sets masks 0 (masks_of os step_places)) where
  area_is : area ≡ masks_of os step_places ++ drop mask_area masks
  area_is =
      let long = length_masks os step_places in
      is ∙ sets-eq (masks_of os step_places) masks 0 (rw long room) ∙ rw long refl

  -- byte j of a step's mask
  mask_at : (step j : ℕ) → step < step_places → j < mask_bytes → get_or area (mask_place step + j) 0 ≡ get_or (mask_of (bit_of (os step))) j 0
  mask_at step j h l =
      rw (area_is, get_or-append (masks_of os step_places) (drop mask_area masks) 0 (mask_place step + j) (rw (length_masks os step_places) (omega arith)))
      (each_part mask_bytes step_places (λ (s : ℕ). mask_of (bit_of (os s))) step j 0 (λ k q. length_mask (bit_of (os k))) h l)

  -- bytes past the area are as they were
  pub past_area : (k : ℕ) → mask_area ≤ k → get_or area k 0 ≡ get_or masks k 0
  past_area k h =
      let e : mask_area + (k - mask_area) ≡ k = omega arith in
      rw (length_masks os step_places, e) at (ap (λ (l : List ℕ). get_or l (length (masks_of os step_places) + (k - mask_area)) 0) area_is
      ∙ get_or-append-add (masks_of os step_places) (drop mask_area masks) (k - mask_area) 0 ∙ get_or-drop mask_area masks (k - mask_area) 0)

  -- a step's count is the number of its set bits
  count_bits : (step : ℕ) → step < step_places → count_at area step ≡ sum_of (bit_of (os step)) matrix_places
  unfolding u16_at
  count_bits step h =
      let n = sum_of (bit_of (os step)) matrix_places in
      let e : mask_place step + bit_bytes + 1 ≡ mask_place step + (bit_bytes + 1) = omega arith in
      rw (e, mask_at step bit_bytes h (omega arith), mask_at step (bit_bytes + 1) h (omega arith), mask_count (bit_of (os step)) 0, mask_count (bit_of (os step)) 1)
      (omega arith)

  -- so it is the number of its elements with a byte, and the counts add up to the number of all of them
  module _ (few : (s : ℕ) → length (os s) ≤ matrix_places) where
    pub count_placed : (step : ℕ) → step < step_places → count_at area step ≡ placed_in (os step)
    count_placed step h = count_bits step h ∙ placed_bits (os step) matrix_places (few step)

    pub counts_placed : (n : ℕ) → n ≤ step_places → sum_of (count_at area) n ≡ sum_of (λ (s : ℕ). placed_in (os s)) n
    unfolding sum_of
    counts_placed zero h = refl
    counts_placed (suc n) h = ap₂ ◌+◌ (counts_placed n (omega arith)) (count_placed n h)

  -- a step touched an element exactly where it has a byte
  pub touched_outcome : (step e : ℕ) → step < step_places → length (os step) ≤ matrix_places → touched area step e ≡ has_byte (get_or (os step) e Skipped)
  unfolding touched both pick bit_of
  touched_outcome step e h few =
      by_order e matrix_places
      (λ l.
      let p : 8 * (e / 8) + e % 8 ≡ e = omega arith in
      let bit = bit_of (os step) in
      rw (lt-ltb step step_places h, lt-ltb e matrix_places l, mask_at step (e / 8) h (omega arith), mask_bits bit (e / 8) (omega arith), packed_bit bit (outcome_bits (os step)) (8 * (e / 8)) 8 (e % 8) (omega arith), p)
      (one_byte (get_or (os step) e Skipped)))
      (λ l. touched_past area step e l ∙ ap has_byte (sym (get_or-eq_default (os step) Skipped (omega arith))))

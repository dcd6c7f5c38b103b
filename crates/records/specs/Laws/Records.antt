-- What is written reads back: the six numbers of a record within its ranges say that record.
use Rattle.std.specs.Prelude.{ℕ, zero, suc, ◌+◌, ◌*◌, ◌-◌, ◌≤◌, ◌<◌, ◌^◌, ◌≡◌, refl, Bool, true, false, List, [], ◌∷◌, ◌++◌, length, get_or, ℤ, pos}
use Rattle.std.proofs.Common.{◌∙◌, append_assoc, not-suc-le-zero, arith, length-append}
use Rattle.std.proofs.Math.Numerals.{towards_suc}
use borrow.Author.Tests.{le-leb, leb-true}
use Rattle.numbers.specs.Choice.{pick}
use Rattle.numbers.specs.Laws.Choice.{both_true, both_left, both_right}
use Rattle.sheet.specs.Sizes.{register_count, record_places}
use Rattle.sheet.specs.Editions.{limits}
use Rattle.sheet.specs.Laws.Editions.{limits_records}
use Rattle.signed.specs.Numbers.{rise, fall, is, at_least, difference, signed_of}
use Rattle.signed.specs.Laws.Numbers.{spans_true, rise_difference, fall_difference, bits_signed}
use Rattle.records.specs.declared.Record.{Record}
use Rattle.records.specs.declared.Record.TheVariants.{Copy, Take, Put, Fill, Whole}
use Rattle.records.specs.declared.Decoded.TheVariants.{Good}
use Rattle.records.specs.Records.{record_length, record_numbers, tape_numbers, moved, register_in_range, step_in_range, copy_in_range, bytes_in_range, fill_in_range, whole_in_range, copy_of, moved_of, fill_of, whole_of, record_of, record_at}
use Rattle.records.specs.Ranges.{Elements, Bytes, InRange, AllRecords, AllInRange}
use Rattle.records.specs.Room.{records_fit}

register_true : (r : ℕ) → r < register_count → register_in_range (pos r) ≡ true
register_true r h = spans_true 0 (register_count - 1) (pos r) (omega arith) (omega arith)

least_true : (low n : ℕ) → low ≤ n → at_least low (pos n) ≡ true
unfolding at_least
least_true low n h = le-leb low n h

none_true : is 0 (pos 0) ≡ true
unfolding is
none_true = refl

module _ (b u d : ℕ) (h : Bytes b u d) where
  up_back : rise (difference u d) ≡ u
  up_back = let w = h.way in rise_difference u d ∙ omega arith

  down_back : fall (difference u d) ≡ d
  down_back = let w = h.way in fall_difference u d ∙ omega arith

  step_true : step_in_range (difference u d) ≡ true
  step_true = spans_true 65535 65535 (difference u d) (rw down_back h.down) (rw up_back h.up)

copy_back : (r o : ℕ) → r < register_count → o < register_count → copy_of (pos r) (pos o) (pos 0) (pos 0) (pos 0) ≡ Good (Copy r o)
unfolding copy_of copy_in_range pick
copy_back r o p q =
    rw (both_true _ _ (register_true r p) (both_true _ _ (register_true o q) (both_true _ _ none_true (both_true _ _ none_true none_true))))

bytes_back : (take : Bool) (r f n b u d : ℕ) → Elements r f n → Bytes b u d
    → moved_of take (pos r) (pos f) (pos n) (pos b) (difference u d) ≡ Good (moved take r f n b u d)
unfolding moved_of bytes_in_range pick
bytes_back take r f n b u d p q =
    rw
    (both_true _ _ (register_true r p.register) (both_true _ _ (least_true 0 f (omega arith)) (both_true _ _ (least_true 1 n p.some) (both_true _ _ (least_true 0 b (omega arith)) (step_true b u d q)))), up_back b u d q, down_back b u d q)

fill_back : (r f n v : ℕ) → Elements r f n → v < 2 ^ 32 → fill_of (pos r) (pos f) (pos n) (signed_of v) (pos 0) ≡ Good (Fill r f n v)
unfolding fill_of fill_in_range pick
fill_back r f n v p q =
    rw
    (both_true _ _ (register_true r p.register) (both_true _ _ (least_true 0 f (omega arith)) (both_true _ _ (least_true 1 n p.some) none_true)), bits_signed v q)

whole_back : (s : ℕ) → whole_of (pos s) (pos 0) (pos 0) (pos 0) (pos 0) ≡ Good (Whole s)
unfolding whole_of whole_in_range pick
whole_back s = rw (both_true _ _ (least_true 0 s (omega arith)) (both_true _ _ none_true (both_true _ _ none_true (both_true _ _ none_true none_true))))

-- the first record of a tape, and the others
pub record_back : (r : Record) (t : List ℤ) → InRange r → record_at (record_numbers r ++ t) 0 ≡ Good r
unfolding record_of pick is moved
record_back (Copy r o) t h = copy_back r o h.0 h.1
record_back (Take r f n b u d) t h = bytes_back true r f n b u d h.0 h.1
record_back (Put r f n b u d) t h = bytes_back false r f n b u d h.0 h.1
record_back (Fill r f n v) t h = fill_back r f n v h.0 h.1
record_back (Whole s) t h = whole_back s

past : (a b c d e f : ℤ) (t : List ℤ) (at : ℕ) → record_at (a ∷ b ∷ c ∷ d ∷ e ∷ f ∷ t) (at + record_length) ≡ record_at t at
past a b c d e f t at = simp towards_suc

pub record_past : (r : Record) (t : List ℤ) (at : ℕ) → record_at (record_numbers r ++ t) (at + record_length) ≡ record_at t at
record_past (Copy r o) t at = past _ _ _ _ _ _ t at
record_past (Take r f n b u d) t at = past _ _ _ _ _ _ t at
record_past (Put r f n b u d) t at = past _ _ _ _ _ _ t at
record_past (Fill r f n v) t at = past _ _ _ _ _ _ t at
record_past (Whole s) t at = past _ _ _ _ _ _ t at

pub all_append : (P : Record → Type 0) (rs qs : List Record) → AllRecords P rs → AllRecords P qs → AllRecords P (rs ++ qs)
all_append P [] qs p q = q
all_append P (r ∷ rs) qs p q = (p.0, all_append P rs qs p.1 q)

-- record k of a written tape
pub tape_back : (rs : List Record) (t : List ℤ) (k : ℕ) → AllInRange rs → k < length rs
    → record_at (tape_numbers rs ++ t) (k * record_length) ≡ Good (get_or rs k (Whole 0))
tape_back [] t k h l = absurd (not-suc-le-zero l)
tape_back (r ∷ rs) t zero h l = rw append_assoc (record_back r (tape_numbers rs ++ t) h.0)
tape_back (r ∷ rs) t (suc k) h l =
    let e : suc k * record_length ≡ k * record_length + record_length = omega arith in
    rw (e, append_assoc, record_past r (tape_numbers rs ++ t) (k * record_length)) (tape_back rs t k h.1 (omega arith))

-- ---- ranges and lengths

pub moved_within : (take : Bool) {r f n b u d : ℕ} → Elements r f n → Bytes b u d → InRange (moved take r f n b u d)
unfolding moved
moved_within true p q = (p, q)
moved_within false p q = (p, q)

pub length_numbers : (r : Record) → length (record_numbers r) ≡ record_length
length_numbers (Copy r o) = refl
length_numbers (Take r f n b u d) = refl
length_numbers (Put r f n b u d) = refl
length_numbers (Fill r f n v) = refl
length_numbers (Whole s) = refl

pub length_tape : (rs : List Record) → length (tape_numbers rs) ≡ length rs * record_length
length_tape [] = refl
length_tape (r ∷ rs) = length-append (record_numbers r) (tape_numbers rs) ∙ omega (arith, length_numbers r, length_tape rs)

pub tape_append : (rs qs : List Record) → tape_numbers (rs ++ qs) ≡ tape_numbers rs ++ tape_numbers qs
tape_append [] qs = refl
tape_append (r ∷ rs) qs = rw (tape_append rs qs, append_assoc)

-- so many records fit: they are few, and the room holds their numbers
module _ (edition room records : ℕ) (e : records_fit edition room records ≡ true) where
  pub fit_few : records ≤ record_places
  unfolding records_fit
  fit_few =
      let h : records ≤ (limits edition).records = leb-true _ _ (both_left _ _ e) in
      omega (arith, h, limits_records edition)

  pub fit_room : records * record_length ≤ room
  unfolding records_fit
  fit_room = leb-true _ _ (both_right _ _ e)

-- The records of a tape and their six numbers, both ways.
use Rattle.std.specs.Prelude.{ℕ, ◌+◌, ◌-◌, Bool, true, false, List, [], ◌∷◌, ◌++◌, ℤ, pos, ◌+ℤ◌, ◌*ℤ◌}
use Rattle.numbers.specs.Choice.{pick, both}
use Rattle.sheet.specs.Sizes.{register_count}
use Rattle.signed.specs.Numbers.{number, rise, fall, is, at_least, spans, difference, signed_of, bits_of}
use Rattle.records.specs.declared.Record.{Record}
use Rattle.records.specs.declared.Record.TheVariants.{Copy, Take, Put, Fill, Whole}
use Rattle.records.specs.declared.Decoded.{Decoded}
use Rattle.records.specs.declared.Decoded.TheVariants.{Good, Bad}

-- ---- from records to numbers: the op first

-- the numbers of a record
abbrev pub record_length : ℕ
record_length = 6

-- 1 take and 2 put: register, first, count, byte, step
abbrev pub bytes_numbers : ℕ → ℕ → ℕ → ℕ → ℕ → ℕ → ℕ → List ℤ
bytes_numbers op register first count byte up down = pos op ∷ pos register ∷ pos first ∷ pos count ∷ pos byte ∷ difference up down ∷ []

-- element first+i is at byte+i*step
unfoldable pub even_byte : ℕ → ℤ → ℕ → ℤ
even_byte byte step i = pos byte +ℤ pos i *ℤ step

-- 0 copy: register, object, 0, 0, 0
-- 3 fill: register, first, count, value (its raw bits, zeros above them, as 32 bits read as signed), 0
-- 4 whole step: step number from 0, then zeros
abbrev pub record_numbers : Record → List ℤ
record_numbers (Copy register object) = pos 0 ∷ pos register ∷ pos object ∷ pos 0 ∷ pos 0 ∷ pos 0 ∷ []
record_numbers (Take register first count byte up down) = bytes_numbers 1 register first count byte up down
record_numbers (Put register first count byte up down) = bytes_numbers 2 register first count byte up down
record_numbers (Fill register first count value) = pos 3 ∷ pos register ∷ pos first ∷ pos count ∷ signed_of value ∷ pos 0 ∷ []
record_numbers (Whole step) = pos 4 ∷ pos step ∷ pos 0 ∷ pos 0 ∷ pos 0 ∷ pos 0 ∷ []

abbrev pub tape_numbers : List Record → List ℤ
tape_numbers [] = []
tape_numbers (r ∷ rs) = record_numbers r ++ tape_numbers rs

-- a take, or a put
unfoldable pub moved : Bool → ℕ → ℕ → ℕ → ℕ → ℕ → ℕ → Record
moved true register first count byte up down = Take register first count byte up down
moved false register first count byte up down = Put register first count byte up down

-- ---- from numbers to records: what makes a record out of range whatever stands in registers, memory and sheet

-- a register outside 0 to 3
abbrev pub register_in_range : ℤ → Bool
register_in_range = spans 0 (register_count - 1)

-- a first element below 0
abbrev pub first_in_range : ℤ → Bool
first_in_range = at_least 0

-- a count below 1
abbrev pub count_in_range : ℤ → Bool
count_in_range = at_least 1

-- a byte below 0 is outside any memory
abbrev pub byte_in_range : ℤ → Bool
byte_in_range = at_least 0

-- a step beyond 65,535 either way; a lone element's too
abbrev pub step_in_range : ℤ → Bool
step_in_range = spans 65535 65535

-- no sheet has a step below 0
abbrev pub step_number_ok : ℤ → Bool
step_number_ok = at_least 0

-- a non-zero unused number
abbrev pub unused_in_range : ℤ → Bool
unused_in_range = is 0

unfoldable pub copy_in_range : ℤ → ℤ → ℤ → ℤ → ℤ → Bool
copy_in_range register object c d e =
    both (register_in_range register) (both (register_in_range object) (both (unused_in_range c) (both (unused_in_range d) (unused_in_range e))))

unfoldable pub bytes_in_range : ℤ → ℤ → ℤ → ℤ → ℤ → Bool
bytes_in_range register first count byte step =
    both (register_in_range register) (both (first_in_range first) (both (count_in_range count) (both (byte_in_range byte) (step_in_range step))))

-- any 32 bits are a value here
unfoldable pub fill_in_range : ℤ → ℤ → ℤ → ℤ → ℤ → Bool
fill_in_range register first count value e =
    both (register_in_range register) (both (first_in_range first) (both (count_in_range count) (unused_in_range e)))

unfoldable pub whole_in_range : ℤ → ℤ → ℤ → ℤ → ℤ → Bool
whole_in_range step b c d e =
    both (step_number_ok step) (both (unused_in_range b) (both (unused_in_range c) (both (unused_in_range d) (unused_in_range e))))

abbrev pub good_if : Bool → Record → Decoded
good_if ok r = pick ok (Good r) Bad

unfoldable pub copy_of : ℤ → ℤ → ℤ → ℤ → ℤ → Decoded
copy_of register object c d e = good_if (copy_in_range register object c d e) (Copy (rise register) (rise object))

unfoldable pub moved_of : Bool → ℤ → ℤ → ℤ → ℤ → ℤ → Decoded
moved_of take register first count byte step =
    good_if (bytes_in_range register first count byte step)
    (moved take (rise register) (rise first) (rise count) (rise byte) (rise step) (fall step))

unfoldable pub fill_of : ℤ → ℤ → ℤ → ℤ → ℤ → Decoded
fill_of register first count value e =
    good_if (fill_in_range register first count value e) (Fill (rise register) (rise first) (rise count) (bits_of value))

unfoldable pub whole_of : ℤ → ℤ → ℤ → ℤ → ℤ → Decoded
whole_of step b c d e = good_if (whole_in_range step b c d e) (Whole (rise step))

-- six numbers, by their op; an unknown op is out of range
unfoldable pub record_of : ℤ → ℤ → ℤ → ℤ → ℤ → ℤ → Decoded
record_of op a b c d e =
    pick (is 0 op) (copy_of a b c d e)
    (pick (is 1 op) (moved_of true a b c d e)
    (pick (is 2 op) (moved_of false a b c d e)
    (pick (is 3 op) (fill_of a b c d e)
    (pick (is 4 op) (whole_of a b c d e)
    Bad))))

-- the numbers after the op of a record that begins at a place of a tape
abbrev pub fields : {A : Type 0} → (ℤ → ℤ → ℤ → ℤ → ℤ → A) → List ℤ → ℕ → A
fields f t at = f (number t (at + 1)) (number t (at + 2)) (number t (at + 3)) (number t (at + 4)) (number t (at + 5))

abbrev pub record_at : List ℤ → ℕ → Decoded
record_at t at = fields (record_of (number t at)) t at

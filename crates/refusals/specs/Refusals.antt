-- Refusal numbers by name, document 01's in its table's order and then document 02's, and a refusal with its place.
use Rattle.std.specs.Prelude.{ℕ}
use Rattle.refusals.specs.declared.Refusal.{Refusal}
use Rattle.refusals.specs.declared.Stop.{Stop}

abbrev pub cut_short : ℕ
cut_short = 1

abbrev pub unknown_tag : ℕ
unknown_tag = 2

abbrev pub out_of_order : ℕ
out_of_order = 3

abbrev pub wrong_length : ℕ
wrong_length = 4

abbrev pub beyond_sizes : ℕ
beyond_sizes = 5

abbrev pub unknown_edition : ℕ
unknown_edition = 6

abbrev pub empty_register : ℕ
empty_register = 7

abbrev pub shapes_disagree : ℕ
shapes_disagree = 8

abbrev pub unaligned_base : ℕ
unaligned_base = 9

abbrev pub ranks_differ : ℕ
ranks_differ = 10

abbrev pub blocked_store : ℕ
blocked_store = 11

abbrev pub index_too_large : ℕ
index_too_large = 12

abbrev pub outside_undefined : ℕ
outside_undefined = 13

abbrev pub outside_memory : ℕ
outside_memory = 14

abbrev pub byte_twice : ℕ
byte_twice = 15

abbrev pub tape_too_long : ℕ
tape_too_long = 16

abbrev pub record_out_of_range : ℕ
record_out_of_range = 17

abbrev pub memory_too_large : ℕ
memory_too_large = 18

abbrev pub room_too_short : ℕ
room_too_short = 19

abbrev pub not_after : ℕ
not_after = 26

-- the number and its place; a place that is not named is 0
abbrev pub refusal_at : ℕ → ℕ → ℕ → Refusal
refusal_at number place element = record { number = number; place = place; element = element }

abbrev pub not_refused : Refusal
not_refused = refusal_at 0 0 0

-- the refusal of a step: its number, and its element where it names one
abbrev pub stop_at : ℕ → ℕ → Stop
stop_at number element = record { number = number; element = element }

-- An event of a trace: what a card did with one element of a load or a store.
use Rattle.std.specs.Prelude.{ℕ, ◌+◌, Bool, true, List, eqb, ltb, get_or}
use Rattle.numbers.specs.Choice.{pick, both}
use Rattle.numbers.specs.Little.{u16_at, u32_at}
use Rattle.traces.specs.declared.Event.{Event}
use Rattle.traces.specs.declared.Previous.{Previous}
use Rattle.traces.specs.declared.Previous.TheVariants.{None, Some}

-- its field: the tag, and the bytes of its content, with its head and without
abbrev pub event_tag : ℕ
event_tag = 0x30

abbrev pub content_length : ℕ
content_length = 9

abbrev pub event_length : ℕ
event_length = 12

-- the content: step 2, element 2, sort 1, byte 4
unfoldable pub event_at : List ℕ → ℕ → Event
event_at s p = record { step = u16_at s p; element = u16_at s (p + 2); sort = get_or s (p + 4) 0; byte = u32_at s (p + 5) }

-- sorts are 0 skipped, 1 filled, 2 discarded, 3 byte
abbrev pub skipped_sort : ℕ
skipped_sort = 0

abbrev pub filled_sort : ℕ
filled_sort = 1

abbrev pub discarded_sort : ℕ
discarded_sort = 2

abbrev pub byte_sort : ℕ
byte_sort = 3

-- the byte is 0 unless the sort is 3
unfoldable pub event_ok : Event → Bool
event_ok e = pick (eqb e.sort byte_sort) true (both (ltb e.sort byte_sort) (eqb e.byte 0))

-- after the one before: by step, then by element; the first is after none
unfoldable pub is_after : Previous → Event → Bool
is_after None e = true
is_after (Some before) e =
    pick (eqb e.step before.step) (ltb before.element e.element) (ltb before.step e.step)

unfoldable pub same_event : Event → Event → Bool
same_event x y =
    both (eqb x.step y.step) (both (eqb x.element y.element) (both (eqb x.sort y.sort) (eqb x.byte y.byte)))

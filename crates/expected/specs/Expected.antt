-- The trace that a sheet makes in a memory of a length: the outcomes of its loads and stores, by demand 2's rules.
use Rattle.std.specs.Prelude.{ℕ, List}
use Rattle.outcomes.specs.declared.Outcome.{Outcome}
use Rattle.outcomes.specs.declared.Outcome.TheVariants.{Skipped, Filled, Discarded, Placed}
use Rattle.sheet.specs.declared.Tensors.{Tensors}
use Rattle.sheet.specs.declared.Sheet.{Sheet}
use Rattle.sheet.specs.declared.Step.{Step}
use Rattle.registers.specs.declared.MatrixType.{MatrixType}
use Rattle.addressing.specs.declared.Access.{Access}
use Rattle.transfers.specs.Transfers.{outcome_of}
use Rattle.accepted.specs.Elements.{of_access, of_step, of_turn, of_sheet}
use Rattle.traces.specs.Events.{skipped_sort, filled_sort, discarded_sort, byte_sort}
use Rattle.traces.specs.declared.Event.{Event}

abbrev pub sort_of : Outcome → ℕ
sort_of Skipped = skipped_sort
sort_of (Filled bits) = filled_sort
sort_of Discarded = discarded_sort
sort_of (Placed byte) = byte_sort

-- the byte is 0 unless the element has one
abbrev pub byte_of : Outcome → ℕ
byte_of Skipped = 0
byte_of (Filled bits) = 0
byte_of Discarded = 0
byte_of (Placed byte) = byte

abbrev pub event_of : ℕ → ℕ → Outcome → Event
event_of step element o = record { step = step; element = element; sort = sort_of o; byte = byte_of o }

-- the event of an element of a load or a store that is step k
abbrev pub outcome_event : ℕ → Access → ℕ → Event
outcome_event k a e = event_of k e (outcome_of a e)

-- of the elements of a load or a store in order, of a step, and of a sheet's steps in order
abbrev pub access_events : ℕ → Access → List Event
access_events k a = of_access (outcome_event k) a

abbrev pub step_events : Tensors → List MatrixType → ℕ → ℕ → Step → List Event
step_events tensors ts len k step = of_step outcome_event tensors ts len k step

abbrev pub events_at : Sheet → ℕ → List MatrixType → ℕ → Step → List Event
events_at sh len ts k step = of_turn outcome_event sh len ts k step

unfoldable pub expected : Sheet → ℕ → List Event
expected sh len = of_sheet outcome_event sh len

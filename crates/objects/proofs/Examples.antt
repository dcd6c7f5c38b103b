-- Worked examples: a load that skips the first of two elements, by each of its objects, and why zeros stand before the runs and over the whole
-- matrix.
use Rattle.std.specs.Prelude.{ℕ, ◌≡◌, refl}
use mathlib.Core.List.{List, [], ◌∷◌, foldl}
use Rattle.numbers.specs.Choice.{pick}
use Rattle.numbers.specs.Orders.{in_order}
use Rattle.kinds.specs.Widths.{width, bytes_of}
use Rattle.outcomes.specs.declared.Outcome.TheVariants.{Skipped, Placed}
use Rattle.sheet.specs.declared.Object.{Object}
use Rattle.sheet.specs.declared.Object.TheVariants.{Kept, Zeros, Register}
use Rattle.sheet.specs.declared.Step.TheVariants.{Nothing}
use Rattle.sheet_ranges.specs.Sheets.{no_tensors}
use Rattle.memory.specs.Elements.{element_at}
use Rattle.registers.specs.Types.{matrix_type}
use Rattle.counts.specs.Counts.{no_counts}
use Rattle.carrying.specs.Steps.{Machine, machine, registers_of}
use Rattle.signed.specs.Numbers.{difference}
use Rattle.records.specs.Records.{even_byte}
use Rattle.records.specs.declared.Record.{Record}
use Rattle.records.specs.declared.Record.TheVariants.{Take, Fill}
use Rattle.judging.specs.Records.{byte_at}
use Rattle.running.specs.Records.{ran_record_with}
use Rattle.objects.specs.Objects.{start_of, loaded_bits}

-- register 0 is a matrix of 1 by 2 of u8, both 100; memory is the byte 16
abbrev hundreds : Machine
hundreds = machine (registers_of (matrix_type 0 1 2 ∷ []) (100 ∷ 100 ∷ [])) (16 ∷ []) no_counts

-- its elements after some records
abbrev left : List Record → List ℕ
left rs = (foldl (λ (m : Machine) (r : Record). ran_record_with no_tensors Nothing r m) hundreds rs).registers.elements

-- the run of a load of byte 0 to element 1
abbrev run : Record
run = Take 0 1 1 0 0 0

-- the elements that the load leaves by its object: element 0 is skipped, element 1 has byte 0
abbrev loaded_from : Object → List ℕ
loaded_from object =
    let start = start_of 0 object (100 ∷ 100 ∷ []) in
    loaded_bits 1 (16 ∷ []) (start 0) Skipped ∷ loaded_bits 1 (16 ∷ []) (start 1) (Placed 0) ∷ []

own_kept : loaded_from Kept ≡ 100 ∷ 16 ∷ []
unfolding element_at
own_kept = refl

from_zeros : loaded_from Zeros ≡ 0 ∷ 16 ∷ []
unfolding element_at
from_zeros = refl

own_copied : loaded_from (Register 0) ≡ 100 ∷ 16 ∷ []
unfolding element_at
own_copied = refl

-- the fill of zeros and the run leave the same
zeros_then_run : left (Fill 0 0 2 0 ∷ run ∷ []) ≡ 0 ∷ 16 ∷ []
unfolding ran_record_with in_order element_at byte_at even_byte difference width bytes_of pick
zeros_then_run = refl

-- behind the run the fill undoes it, and over the run's element alone it leaves what the register held
run_then_zeros : left (run ∷ Fill 0 0 2 0 ∷ []) ≡ 0 ∷ 0 ∷ []
unfolding ran_record_with in_order element_at byte_at even_byte difference width bytes_of pick
run_then_zeros = refl

zeros_over_the_run : left (Fill 0 1 1 0 ∷ run ∷ []) ≡ 100 ∷ 16 ∷ []
unfolding ran_record_with in_order element_at byte_at even_byte difference width bytes_of pick
zeros_over_the_run = refl

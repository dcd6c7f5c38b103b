-- What a record of a running tape does.
use Rattle.std.specs.Prelude.{ℕ}
use Rattle.sheet_ranges.specs.Steps.{the_step}
use Rattle.sheet.specs.declared.Tensors.{Tensors}
use Rattle.sheet.specs.declared.Sheet.{Sheet}
use Rattle.sheet.specs.declared.Step.{Step}
use Rattle.registers.specs.Registers.{copied}
use Rattle.carrying.specs.Steps.{Machine, machine, performed_step}
use Rattle.records.specs.declared.Record.{Record}
use Rattle.records.specs.declared.Record.TheVariants.{Copy, Take, Put, Fill, Whole}
use Rattle.judging.specs.Records.{step_named}
use Rattle.moves.specs.Elements.{taking, putting, filling, on_elements}

-- take gives its elements the raw bits at their bytes, put writes theirs there, fill gives its elements the value's bits,
-- copy makes the register equal to the object, op 4 does the step that it names; all else stays
unfoldable pub ran_record_with : Tensors → Step → Record → Machine → Machine
ran_record_with tensors named (Copy register object) m = machine (copied m.registers register object) m.memory m.counts
ran_record_with tensors named (Take register first count byte up down) m =
    on_elements register (λ (size : ℕ). taking size register first byte up down) count m
ran_record_with tensors named (Put register first count byte up down) m =
    on_elements register (λ (size : ℕ). putting size register first byte up down) count m
ran_record_with tensors named (Fill register first count value) m =
    on_elements register (λ (size : ℕ). filling register first value) count m
ran_record_with tensors named (Whole k) m = performed_step tensors named m

abbrev pub ran_record : Sheet → Record → Machine → Machine
ran_record sh r m = ran_record_with sh.tensors (the_step sh.step (step_named r)) r m

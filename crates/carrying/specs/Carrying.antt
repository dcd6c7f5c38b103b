-- Carrying out a sheet: demand 2.
use Rattle.std.specs.Prelude.{ℕ, zero, suc, ◌+◌, List, length, eqb}
use Rattle.numbers.specs.Choice.{pick}
use Rattle.sheet_ranges.specs.Steps.{the_step}
use Rattle.sheet.specs.declared.Sheet.{Sheet}
use Rattle.refusals.specs.Refusals.{not_refused}
use Rattle.refusals.specs.declared.Refusal.{Refusal}
use Rattle.sheet_reader.specs.Reading.{read_sheet}
use Rattle.registers.specs.Registers.{empty_registers}
use Rattle.registers.specs.declared.Registers.{Registers}
use Rattle.counts.specs.Counts.{no_counts}
use Rattle.counts.specs.declared.Counts.{Counts}
use Rattle.checking.specs.Checking.{checked_sheet}
use Rattle.carrying.specs.Steps.{performed_step, Machine, machine, registers_of}
use Rattle.carrying.specs.declared.CarryAnswer.{CarryAnswer}

-- n steps more, the next of which is number k
unfoldable pub performed_from : ℕ → Sheet → ℕ → Machine → Machine
performed_from zero sh k m = m
performed_from (suc n) sh k m = performed_from n sh (k + 1) (performed_step sh.tensors (the_step sh.step k) m)

-- the steps in order
unfoldable pub performed : Sheet → Machine → Machine
performed sh m = performed_from sh.steps sh 0 m

-- the machine at the start: empty registers, the lent memory, nothing counted
abbrev pub started : List ℕ → Machine
started memory = machine empty_registers memory no_counts

-- what carrying out gives beside memory
pub record CarriedOut : Type 0 where
  pub refusal : Refusal
  pub counts : Counts
  pub registers : Registers

abbrev pub carry_answer : Refusal → Registers → Counts → CarriedOut
carry_answer r registers counts = record { refusal = r; counts = counts; registers = registers }

-- an answer holds the registers' types; their elements are the lent ones
abbrev pub answer_with : CarryAnswer → List ℕ → CarriedOut
answer_with r elements = carry_answer r.refusal (registers_of r.types elements) r.counts

abbrev pub refused_answer : Refusal → CarryAnswer
refused_answer r = record { refusal = r; counts = no_counts; types = empty_registers.types }

-- refused: empty registers and nothing counted; accepted: what the steps leave
unfoldable pub carried : List ℕ → List ℕ → CarriedOut
carried s memory =
    pick (eqb (checked_sheet s (length memory)).refusal.number 0)
    (let m = performed (read_sheet s).sheet (started memory) in carry_answer not_refused m.registers m.counts)
    (carry_answer (checked_sheet s (length memory)).refusal empty_registers no_counts)

-- memory afterwards: unchanged where the sheet is refused
unfoldable pub carried_memory : List ℕ → List ℕ → List ℕ
carried_memory s memory =
    pick (eqb (checked_sheet s (length memory)).refusal.number 0) (performed (read_sheet s).sheet (started memory)).memory memory

-- What one step does to a machine.
use Rattle.std.specs.Prelude.{ℕ, List, true, false, length}
use Rattle.sheet.specs.declared.Object.{Object}
use Rattle.sheet.specs.declared.Object.TheVariants.{Kept, Zeros, Register}
use Rattle.sheet.specs.declared.Window.{Window}
use Rattle.sheet.specs.declared.Tensors.{Tensors}
use Rattle.sheet.specs.declared.Step.{Step}
use Rattle.sheet.specs.declared.Step.TheVariants.{Nothing, Load, Store, Whole}
use Rattle.sheet.specs.declared.WholeStep.{WholeStep}
use Rattle.registers.specs.Types.{the_type}
use Rattle.registers.specs.Registers.{copied, zeroed}
use Rattle.registers.specs.declared.MatrixType.{MatrixType}
use Rattle.registers.specs.declared.Registers.{Registers}
use Rattle.whole_steps.specs.Whole.{whole_done}
use Rattle.counts.specs.declared.Counts.{Counts}
use Rattle.transfers.specs.Acts.{State, state}
use Rattle.transfers.specs.Transfers.{loaded_elements, stored_elements}
use Rattle.checking.specs.Steps.{access_of}

-- registers, memory, and what is counted
pub record Machine : Type 0 where
  pub registers : Registers
  pub memory : List ℕ
  pub counts : Counts

abbrev pub machine : Registers → List ℕ → Counts → Machine
machine registers memory counts = record { registers = registers; memory = memory; counts = counts }

-- what elements of a register of a type work on, and the machine that they leave
abbrev pub state_of : Machine → State
state_of m = state m.registers.elements m.memory m.counts

abbrev pub registers_of : List MatrixType → List ℕ → Registers
registers_of types elements = record { types = types; elements = elements }

abbrev pub machine_of : List MatrixType → State → Machine
machine_of types s = machine (registers_of types s.elements) s.memory s.counts

-- a load first gives its register the object, type and elements; zeros have the register's own type
unfoldable pub with_object : ℕ → Object → Registers → Registers
with_object register Kept g = g
with_object register Zeros g = zeroed g register
with_object register (Register object) g = copied g register object

abbrev pub object_done : ℕ → Object → Machine → Machine
object_done register object m = machine (with_object register object m.registers) m.memory m.counts

-- then its elements, and the elements of a store
unfoldable pub load_done : Tensors → ℕ → Window → Machine → Machine
load_done tensors register window m =
    let t = the_type m.registers.types register in
    machine_of m.registers.types (loaded_elements (access_of tensors true window t (length m.memory)) register (state_of m))

unfoldable pub store_done : Tensors → ℕ → Window → Machine → Machine
store_done tensors register window m =
    let t = the_type m.registers.types register in
    machine_of m.registers.types (stored_elements (access_of tensors false window t (length m.memory)) register (state_of m))

-- a whole step reads memory, and leaves it as it was
abbrev pub whole_step_done : WholeStep → Machine → Machine
whole_step_done w m = machine (whole_done m.registers m.memory w) m.memory m.counts

-- what a step does
unfoldable pub performed_step : Tensors → Step → Machine → Machine
performed_step tensors Nothing m = m
performed_step tensors (Load register object window) m = load_done tensors register window (object_done register object m)
performed_step tensors (Store register window) m = store_done tensors register window m
performed_step tensors (Whole whole) m = whole_step_done whole m

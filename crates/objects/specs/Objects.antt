-- What an element of a load starts from, and what it holds after the load.
use Rattle.std.specs.Prelude.{ℕ, true, List, length}
use Rattle.outcomes.specs.declared.Outcome.{Outcome}
use Rattle.outcomes.specs.declared.Outcome.TheVariants.{Skipped, Filled, Discarded, Placed}
use Rattle.sheet.specs.declared.Object.{Object}
use Rattle.sheet.specs.declared.Object.TheVariants.{Kept, Zeros, Register}
use Rattle.sheet.specs.declared.Window.{Window}
use Rattle.sheet.specs.declared.Tensors.{Tensors}
use Rattle.memory.specs.Elements.{element_at}
use Rattle.registers.specs.Types.{the_type}
use Rattle.registers.specs.Registers.{element_of}
use Rattle.addressing.specs.declared.Access.{Access}
use Rattle.checking.specs.Steps.{access_of, object_register}
use Rattle.carrying.specs.Steps.{Machine}

-- element e of the object of a load of a register, over the registers' elements
abbrev pub start_of : ℕ → Object → List ℕ → ℕ → ℕ
start_of register Kept es e = element_of es register e
start_of register Zeros es e = 0
start_of register (Register object) es e = element_of es object e

-- an element of a size that started from some bits, by its outcome: the bits at its byte, the fill, or what it started from
abbrev pub loaded_bits : ℕ → List ℕ → ℕ → Outcome → ℕ
loaded_bits size memory start Skipped = start
loaded_bits size memory start (Filled bits) = bits
loaded_bits size memory start Discarded = start
loaded_bits size memory start (Placed byte) = element_at memory byte size

-- a load of a register on a machine
abbrev pub load_on : Tensors → ℕ → Object → Window → Machine → Access
load_on tensors register object window m =
    access_of tensors true window (the_type m.registers.types (object_register register object)) (length m.memory)

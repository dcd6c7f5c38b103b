-- Which bytes the elements of a step have.
use Rattle.std.specs.Prelude.{◌≡◌, Bool, true, false, ℕ, ◌<◌, length}
use Rattle.sheet_ranges.specs.Steps.{the_step}
use Rattle.sheet.specs.declared.Window.{Window}
use Rattle.sheet.specs.declared.Tensors.{Tensors}
use Rattle.sheet.specs.declared.Sheet.{Sheet}
use Rattle.sheet.specs.declared.Step.{Step}
use Rattle.sheet.specs.declared.Step.TheVariants.{Nothing, Load, Store, Whole}
use Rattle.registers.specs.Types.{the_type}
use Rattle.addressing.specs.Rules.{elements_of}
use Rattle.addressing.specs.declared.Access.{Access}
use Rattle.transfers.specs.Transfers.{outcome_of}
use Rattle.transfers.specs.Acts.{Occupies}
use Rattle.checking.specs.Steps.{access_of, object_register}
use Rattle.carrying.specs.Steps.{Machine}
use Rattle.carrying.specs.Carrying.{performed_from}

-- byte b is one of those of element e of an access
abbrev pub HasByteOf : Access → ℕ → ℕ → Type 0
HasByteOf a e b = (e < elements_of a) × Occupies a.size b (outcome_of a e)

-- a store on a machine
abbrev pub store_on : Tensors → ℕ → Window → Machine → Access
store_on tensors register window m = access_of tensors false window (the_type m.registers.types register) (length m.memory)

-- byte b is one of those of element e of a step, which is a load or a store
abbrev pub HasByte : Tensors → Step → Machine → ℕ → ℕ → Type 0
HasByte tensors Nothing m e b = ⊥
HasByte tensors (Load register object window) m e b =
    HasByteOf (access_of tensors true window (the_type m.registers.types (object_register register object)) (length m.memory)) e b
HasByte tensors (Store register window) m e b = HasByteOf (store_on tensors register window m) e b
HasByte tensors (Whole whole) m e b = ⊥

abbrev pub is_store : Step → Bool
is_store Nothing = false
is_store (Load register object window) = false
is_store (Store register window) = true
is_store (Whole whole) = false

-- a step writes byte b: it is a store, and b is a byte of one of its elements
abbrev pub Writes : Tensors → Step → Machine → ℕ → Type 0
Writes tensors step m b = (is_store step ≡ true) × ((e : ℕ) × HasByte tensors step m e b)

-- step k of a sheet writes byte b, on the machine that the steps before it leave
abbrev pub StepWrites : Sheet → Machine → ℕ → ℕ → Type 0
StepWrites sh m k b = Writes sh.tensors (the_step sh.step k) (performed_from k sh 0 m) b

-- no step of a sheet writes byte b
abbrev pub Unwritten : Sheet → Machine → ℕ → Type 0
Unwritten sh m b = (k : ℕ) → k < sh.steps → StepWrites sh m k b → ⊥

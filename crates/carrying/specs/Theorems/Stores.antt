-- The bytes of the elements of loads and stores: they lie in memory, and two elements of one accepted store never share one.
use Rattle.std.specs.Prelude.{◌≡◌, refl, true, false, List, ℕ, ◌<◌, length}
use Rattle.std.proofs.Common.{sym, true≢false, ⊎_elim, arith}
use Rattle.numbers.specs.Laws.Choice.{by_place}
use Rattle.sheet_ranges.specs.Steps.{the_step}
use Rattle.sheet.specs.declared.Tensors.{Tensors}
use Rattle.sheet.specs.declared.Sheet.{Sheet}
use Rattle.sheet.specs.declared.Step.{Step}
use Rattle.sheet.specs.declared.Step.TheVariants.{Nothing, Load, Store, Whole}
use Rattle.registers.specs.Types.{the_type}
use Rattle.addressing.specs.declared.Access.{Access}
use Rattle.accesses.specs.Refusals.{access_refusal}
use Rattle.accesses.proofs.Laws.Accepted.{placed_inside, placed_apart}
use Rattle.transfers.specs.Transfers.{outcome_of}
use Rattle.transfers.proofs.Laws.Effects.{has_placed}
use Rattle.checking.specs.Steps.{access_of, object_register, checked_step}
use Rattle.checking.specs.Checking.{checked}
use Rattle.checking.specs.Laws.Accesses.{access_clear}
use Rattle.carrying.specs.Steps.{Machine}
use Rattle.carrying.specs.Carrying.{performed_from, started}
use Rattle.carrying.specs.Machines.{Accepted}
use Rattle.carrying.specs.Laws.Types.{from_length, sheet_accepted}
use Rattle.carrying.specs.Bytes.{HasByteOf, HasByte, is_store}

access_inside : (a : Access) (e b : ℕ) → HasByteOf a e b → b < a.memory
access_inside a e b h =
    let p = has_placed a.size b (outcome_of a e) h.1 in
    omega (arith, placed_inside a e p.1.0, p.1.1.1)

-- A byte of an element of a load or a store lies in memory.
pub byte_inside : (tensors : Tensors) (step : Step) (m : Machine) (e b : ℕ) → HasByte tensors step m e b → b < length m.memory
byte_inside tensors Nothing m e b h = absurd h
byte_inside tensors (Load register object window) m e b h =
    access_inside (access_of tensors true window (the_type m.registers.types (object_register register object)) (length m.memory)) e b h
byte_inside tensors (Store register window) m e b h =
    access_inside (access_of tensors false window (the_type m.registers.types register) (length m.memory)) e b h
byte_inside tensors (Whole whole) m e b h = absurd h

-- Two elements of one accepted store never share a byte: elements that have the same byte are one.
pub access_apart : (a : Access) → a.load ≡ false → (access_refusal a).number ≡ 0 → (i j b : ℕ) → HasByteOf a i b → HasByteOf a j b → i ≡ j
access_apart a s ok i j b g h =
    let p = has_placed a.size b (outcome_of a i) g.1 in
    let q = has_placed a.size b (outcome_of a j) h.1 in
    by_place i j (λ e. e)
    (λ d.
    absurd
    (⊎_elim (λ l. omega (arith, p.1.1.1, q.1.1.0)) (λ l. omega (arith, q.1.1.1, p.1.1.0))
    (placed_apart a ok s i j g.0 h.0 d p.1.0 q.1.0)))

-- So it is of an accepted step on a machine.
pub bytes_apart : (edition : ℕ) (tensors : Tensors) (step : Step) (m : Machine) → Accepted edition tensors step m → is_store step ≡ true
    → (i j b : ℕ) → HasByte tensors step m i b → HasByte tensors step m j b → i ≡ j
unfolding checked_step
bytes_apart edition tensors Nothing m a s i j b g h = absurd g
bytes_apart edition tensors (Load register object window) m a s i j b g h = absurd (true≢false (sym s))
bytes_apart edition tensors (Store register window) m a s i j b g h =
    let ts = m.registers.types in
    let t = the_type ts register in
    let x = access_of tensors false window t (length m.memory) in
    access_apart x refl (access_clear ts ts t x a).clear i j b g h
bytes_apart edition tensors (Whole whole) m a s i j b g h = absurd g

-- The same of step k of a sheet, on the machine that the steps before it leave.
module _ (sh : Sheet) (memory : List ℕ) (k : ℕ) where
  abbrev pub before : Machine
  before = performed_from k sh 0 (started memory)

  pub sheet_byte_inside : (e b : ℕ) → HasByte sh.tensors (the_step sh.step k) before e b → b < length memory
  sheet_byte_inside e b h = rw (from_length k sh 0 (started memory)) at (byte_inside sh.tensors (the_step sh.step k) before e b h)

  pub sheet_bytes_apart : (checked sh (length memory)).refusal.number ≡ 0 → k < sh.steps → is_store (the_step sh.step k) ≡ true → (i j b : ℕ)
      → HasByte sh.tensors (the_step sh.step k) before i b → HasByte sh.tensors (the_step sh.step k) before j b → i ≡ j
  sheet_bytes_apart ok l s i j b g h = bytes_apart sh.edition sh.tensors (the_step sh.step k) before (sheet_accepted sh memory ok k l) s i j b g h

use Prim.Native.Nat.{◌+◌, ◌-◌, ◌*◌, ◌≤◌}
use mathlib.Core.Path.{◌≡◌}
use lib.ListN.{length}
use Rattle.sheet.specs.Sizes.{matrix_places}
use Rattle.sheet_reader.specs.Parts.{sheet_of}
use Rattle.registers.specs.Sized.{Sized}
use Rattle.checking.specs.Checking.{checked_from, checked}
use Rattle.accepted.specs.Passes.{pass_rest}
use Rattle.translating.specs.Tapes.{sheet_records, tape_of}
use Rattle.translating.specs.Turns.{records_most}
use Rattle.translating.proofs.count_tape.Given as goal

abbrev pub invariant-loop-k : goal.invariant-loop-k
invariant-loop-k l =
    ((l.k ≤ l.given.steps) × Sized l.types × (length l.entries ≡ matrix_places))
    × ((l.count ≤ l.k * matrix_places) × (checked_from ((sheet_of l.s).steps - l.k) (sheet_of l.s) l.memory l.k l.types l.count ≡ checked (sheet_of l.s) l.memory))
    × ((l.records ≤ l.k * records_most) × (l.records + length (pass_rest (sheet_records (sheet_of l.s) l.memory) (sheet_of l.s) l.memory l.k l.types) ≡ length (tape_of (sheet_of l.s) l.memory)))

abbrev pub decreases-loop-k : goal.decreases-loop-k
decreases-loop-k l = l.given.steps - l.k

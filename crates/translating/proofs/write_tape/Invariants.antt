use mathlib.Core.Path.{◌≡◌}
use Prim.Native.Nat.{◌-◌, ◌*◌, ◌≤◌}
use lib.ListN.{length}
use lib.Seq.{sets}
use Rattle.sheet.specs.Sizes.{matrix_places}
use Rattle.sheet_reader.specs.Parts.{sheet_of}
use Rattle.records.specs.Records.{record_length, tape_numbers}
use Rattle.accepted.specs.Passes.{types_at, pass_rest}
use Rattle.accepted.specs.Laws.Rests.{Rest}
use Rattle.masks.specs.Masks.{masks_of}
use Rattle.access_tapes.specs.Writing.{Room}
use Rattle.translating.specs.Tapes.{sheet_records, tape_of}
use Rattle.translating.specs.Masks.{sheet_outcomes}
use Rattle.translating.proofs.write_tape.Given as goal

-- the tape: the records from `at` on are those of the steps that are left
abbrev pub invariant-loop-k : goal.invariant-loop-k
invariant-loop-k l =
    ((l.k ≤ l.given.steps) × Rest (sheet_of l.s) l.memory l.k l.types × (l.types ≡ types_at (sheet_of l.s) l.memory l.k) × (length l.entries ≡ matrix_places))
    × ((length l.tape ≡ length l.initial.tape) × Room l.initial.tape l.at (pass_rest (sheet_records (sheet_of l.s) l.memory) (sheet_of l.s) l.memory l.k l.types)
    × (sets l.tape (l.at * record_length) (tape_numbers (pass_rest (sheet_records (sheet_of l.s) l.memory) (sheet_of l.s) l.memory l.k l.types)) ≡ sets l.initial.tape 0 (tape_numbers (tape_of (sheet_of l.s) l.memory))))
    × ((length l.masks ≡ length l.initial.masks) × (l.masks ≡ sets l.initial.masks 0 (masks_of (sheet_outcomes (sheet_of l.s) l.memory) l.k)))

abbrev pub decreases-loop-k : goal.decreases-loop-k
decreases-loop-k l = l.given.steps - l.k

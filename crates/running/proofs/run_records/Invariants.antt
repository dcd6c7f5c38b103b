use Prim.Native.Nat.{◌-◌, ◌≤◌}
use mathlib.Core.Path.{◌≡◌}
use lib.ListN.{length}
use Rattle.sheet.specs.Sizes.{matrix_places}
use Rattle.sheet_reader.specs.Parts.{sheet_of}
use Rattle.transfers.specs.Acts.{state}
use Rattle.carrying.specs.Steps.{machine_of}
use Rattle.carrying.specs.Carrying.{started}
use Rattle.judging.specs.Judging.{tape_record}
use Rattle.running.specs.Running.{ran}
use Rattle.running.proofs.Laws.Turns.{RunReady}
use Rattle.running.proofs.run_records.Given as goal

abbrev pub invariant-loop-k : goal.invariant-loop-k
invariant-loop-k l = (l.k ≤ l.records) × (length l.block ≡ matrix_places) × RunReady (l.records - l.k) (sheet_of l.s) (length l.initial.memory) (tape_record l.tape) l.k (machine_of l.types (state l.elements l.memory l.counts)) (ran l.records (sheet_of l.s) (tape_record l.tape) (started l.initial.memory))

abbrev pub decreases-loop-k : goal.decreases-loop-k
decreases-loop-k l = l.records - l.k

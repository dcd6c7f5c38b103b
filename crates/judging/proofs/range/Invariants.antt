use Prim.Native.Nat.{◌-◌}
use mathlib.Core.Path.{◌≡◌}
use Rattle.sheet_reader.specs.Parts.{sheet_of}
use Rattle.registers.specs.Sized.{Sized}
use Rattle.judging.specs.Judging.{tape_record, range_from, range_refusal}
use Rattle.judging.proofs.range.Given as goal

abbrev pub invariant-loop-k : goal.invariant-loop-k
invariant-loop-k l = Sized l.types × (range_from (l.records - l.k) (sheet_of l.s) l.len (tape_record l.tape) l.k l.types ≡ range_refusal l.records (sheet_of l.s) l.len (tape_record l.tape))

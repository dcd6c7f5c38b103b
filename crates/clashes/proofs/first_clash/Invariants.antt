use Prim.Native.Nat.{◌-◌}
use mathlib.Core.Path.{◌≡◌}
use mathlib.Core.Bool.{false}
use Rattle.clashes.specs.Entries.{same_entry}
use Rattle.clashes.specs.Clashes.{meets, clash_from}
use Rattle.clashes.proofs.first_clash.Given as goal

abbrev pub invariant-loop-j : goal.invariant-loop-j
invariant-loop-j l = (l.clash ≡ l.count) × (meets (same_entry l.entries) l.i l.j ≡ false)

abbrev pub invariant-search : goal.invariant-search
invariant-search l = (l.clash ≡ l.count) × (clash_from (same_entry l.entries) l.i (l.count - l.i) ≡ clash_from (same_entry l.entries) 0 l.count)

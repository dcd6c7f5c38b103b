use Rattle.std.proofs.Common.{◌≡◌, ◌≤◌}
use Rattle.counts.specs.Counts.{more_placed}
use Rattle.transfers.specs.Acts.{state, stored}
use Rattle.transfers.specs.Transfers.{transferred, outcome_of}
use Rattle.transfers.proofs.store_elements.Given as goal

abbrev pub invariant-loop-k : goal.invariant-loop-k
invariant-loop-k l =
    (l.placed ≤ l.k)
    × (state l.elements l.memory (more_placed l.counted l.placed) ≡ transferred (stored l.p.access.size l.register) (outcome_of l.p.access) l.k (state l.elements l.initial.memory l.counted))

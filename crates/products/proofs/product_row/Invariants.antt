use Rattle.std.proofs.Common.{◌≡◌, ℕ, ◌+◌, ◌*◌, ◌%◌, ◌^◌, get_or}
use Rattle.numbers.specs.Lists.{line}
use Rattle.numbers.specs.Remainders.{remainder}
use Rattle.kinds.specs.Values.{value}
use Rattle.products.specs.Residues.{dot_of}
use Rattle.products.proofs.product_row.Given as goal

abbrev pub invariant-loop-j : goal.invariant-loop-j
invariant-loop-j l =
    l.out
    ≡ line l.initial.out l.start
    (λ (k : ℕ). (dot_of (λ (t : ℕ). get_or l.x t 0) (λ (t : ℕ). get_or l.y (k + t * l.n) 0) l.inner + remainder (value l.kind (get_or l.elements (l.from + k) 0)) (2 ^ 32)) % 2 ^ 32)
    l.j

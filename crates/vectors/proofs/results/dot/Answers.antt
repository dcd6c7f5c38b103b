use Rattle.std.proofs.Common.{ℕ, ◌+◌, ◌*◌, ◌^◌, refl, ap, ◌∙◌, arith}
use Rattle.std.proofs.Math.Nat.{add-mod-mod}
use Rattle.numbers.specs.Remainders.{remainder}
use Rattle.kinds.specs.Values.{value}
use Rattle.kinds.specs.Laws.Widths.{bytes_size}
use Rattle.kinds.specs.Sums.{sum_z}
use Rattle.memory.specs.Elements.{element_at}
use Rattle.vectors.proofs.Laws.Results.{line_next}
use Rattle.vectors.proofs.results.dot.Goals as goal

pub loop-c-init : goal.loop-c-init
unfolding sum_z
loop-c-init c = refl

pub element_at-x-requires : goal.element_at-x-requires
element_at-x-requires c =
    let b = c.bytes-size.ensures in
    (rw b (bytes_size _), rw b (c.requires.1.at c.loop-c.c (omega arith)))

pub loop-c-preserved : goal.loop-c-preserved
loop-c-preserved c =
    let a = c.args in
    let i = c.loop-c in
    let x =
    c.residue.ensures
    ∙ ap (λ (x : ℕ). remainder (value a.kind x) (2 ^ 32))
    (c.element_at-x.ensures
    ∙ ap (element_at a.memory.now (a.first + i.c * a.across)) c.bytes-size.ensures) in
    add-mod-mod _ _ _ ∙ line_next a.memory.now a.first a.across a.kind a.components.now i.c i.invariant x refl (omega arith)

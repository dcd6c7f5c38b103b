use Rattle.std.specs.Prelude.{◌+◌, ◌<◌, ◌≤◌, length}
use Rattle.std.proofs.Common.{arith, rules}
use Rattle.std.proofs.lemmas.List.{length-take, get_or-take}
use Rattle.tensor_ranges.specs.Views.{the_view_dimension}
use Rattle.sheet_bytes.specs.Bytes.{view_dimension_bytes}
use Rattle.fields.specs.Laws.Puts.{no_turns, one_turn, turn_fits}
use Rattle.sheet_bytes.specs.Laws.Lengths.{length_view_dimension}
use Rattle.sheet_bytes.proofs.views.put_view_dimensions.Goals as goal
use Rattle.sheet_bytes.proofs.views.put_view_dimensions.Goals.{In-loop-d}

pub loop-d-init : goal.loop-d-init
loop-d-init c = no_turns _ _ _

-- one more is given, and has room
given : (c : In-loop-d) → c.loop-d.d-index < c.args.count
given c = omega (arith, length-take c.from.result c.args.ds)

room : (c : In-loop-d) → c.loop-d.p + 4 ≤ length c.loop-d.out
room c =
    let i = c.loop-d in
    omega (arith, turn_fits _ _ _ _ i.invariant c.requires.1 (given c), length_view_dimension (the_view_dimension c.args.ds i.d-index))

pub put_u16s-requires : goal.put_u16s-requires
put_u16s-requires c = room (goal.at.put_u16s-requires c).In-loop-d

pub overflow_add-p : goal.overflow_add-p
overflow_add-p c = let r = room (goal.at.overflow_add-p c).In-loop-d in search rules

pub loop-d-preserved : goal.loop-d-preserved
unfolding view_dimension_bytes
loop-d-preserved c =
    let i = c.loop-d in
    let h : i.d-index < c.from.result = omega (arith, length-take c.from.result c.args.ds) in
    one_turn _ _ _ i.invariant (rw (length_view_dimension (the_view_dimension c.args.ds i.d-index))) (rw (get_or-take _ _ _ _ h) at c.put_u16s.ensures)

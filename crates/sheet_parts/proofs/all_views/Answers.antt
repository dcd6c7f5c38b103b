use Prim.Native.Nat.{◌-◌, ◌<◌}
use mathlib.Core.Path.{◌≡◌, ap, ◌∙◌}
use mathlib.Core.List.{[]}
use native.Mathlib.Omega.{arith}
use borrow.Author.Rules.{rules}
use lib.ListN.{replicate}
use Rattle.numbers.specs.Lists.{line}
use Rattle.numbers.specs.Laws.Lists.{line_start, line_step}
use Rattle.sheet.specs.Sizes.{view_places}
use Rattle.tensor_ranges.specs.Views.{no_view, the_view}
use Rattle.sheet_reader.specs.Parts.{sheet_of}
use Rattle.sheet_parts.specs.Laws.{outlined_within, parted_all}
use Rattle.sheet_parts.proofs.all_views.Goals as goal
use Rattle.sheet_parts.proofs.all_views.Goals.{After-view_in}

-- the place that a turn fills
room : (c : After-view_in) → c.loop-k.k < view_places
room c =
    let p = c.requires in
    omega (arith, p.1, c.loop-k-test.true, (outlined_within p.0.1).tensors.views)

pub loop-k-init : goal.loop-k-init
loop-k-init c = (search rules, cc (line_start (replicate view_places no_view) (the_view (sheet_of c.args.s.now).tensors.view)))

pub view_in-requires : goal.view_in-requires
view_in-requires c =
    let p = c.requires in
    (p.0, omega (arith, p.1, c.loop-k-test.true))

pub offset_bounds-all-k : goal.offset_bounds-all-k
offset_bounds-all-k c = omega (arith, room c)

pub bounds-all-k : goal.bounds-all-k
bounds-all-k c = room c

pub overflow_add-k : goal.overflow_add-k
overflow_add-k c = omega (arith, room c)

pub loop-k-preserved : goal.loop-k-preserved
loop-k-preserved c = (search rules, line_step _ _ _ c.loop-k.invariant.1 c.view_in.ensures)

pub returns : goal.returns
returns c =
    let i = c.loop-k in
    let p = c.requires in
    let s = c.args.s.now in
    let n : i.k ≡ (sheet_of s).tensors.views = omega (arith, p.1, i.invariant.0, c.loop-k-test.false) in
    i.invariant.1
    ∙ ap (line (replicate view_places no_view) 0 (the_view (sheet_of s).tensors.view)) n
    ∙ parted_all view_places (the_view [] 0) no_view _ _ _ (sheet_of s).tensors.views (sheet_of s).tensors.view (outlined_within p.0.1).tensors.views p.0.1.stands.view

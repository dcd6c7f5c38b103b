use Prim.Native.Nat.{◌-◌, ◌<◌}
use mathlib.Core.Path.{◌≡◌, ap, ◌∙◌}
use mathlib.Core.List.{[]}
use native.Mathlib.Omega.{arith}
use borrow.Author.Rules.{rules}
use lib.ListN.{replicate}
use Rattle.numbers.specs.Lists.{line}
use Rattle.numbers.specs.Laws.Lists.{line_start, line_step}
use Rattle.sheet.specs.Sizes.{layout_places}
use Rattle.tensor_ranges.specs.Layouts.{no_layout, the_layout}
use Rattle.sheet_reader.specs.Parts.{sheet_of}
use Rattle.sheet_parts.specs.Laws.{outlined_within, parted_all}
use Rattle.sheet_parts.proofs.all_layouts.Goals as goal
use Rattle.sheet_parts.proofs.all_layouts.Goals.{After-layout_in}

-- the place that a turn fills
room : (c : After-layout_in) → c.loop-k.k < layout_places
room c =
    let p = c.requires in
    omega (arith, p.1, c.loop-k-test.true, (outlined_within p.0.1).tensors.layouts)

pub loop-k-init : goal.loop-k-init
loop-k-init c = (search rules, cc (line_start (replicate layout_places no_layout) (the_layout (sheet_of c.args.s.now).tensors.layout)))

pub layout_in-requires : goal.layout_in-requires
layout_in-requires c =
    let p = c.requires in
    (p.0, omega (arith, p.1, c.loop-k-test.true))

pub offset_bounds-all-k : goal.offset_bounds-all-k
offset_bounds-all-k c = omega (arith, room c)

pub bounds-all-k : goal.bounds-all-k
bounds-all-k c = room c

pub overflow_add-k : goal.overflow_add-k
overflow_add-k c = omega (arith, room c)

pub loop-k-preserved : goal.loop-k-preserved
loop-k-preserved c = (search rules, line_step _ _ _ c.loop-k.invariant.1 c.layout_in.ensures)

pub returns : goal.returns
returns c =
    let i = c.loop-k in
    let p = c.requires in
    let s = c.args.s.now in
    let n : i.k ≡ (sheet_of s).tensors.layouts = omega (arith, p.1, i.invariant.0, c.loop-k-test.false) in
    i.invariant.1
    ∙ ap (line (replicate layout_places no_layout) 0 (the_layout (sheet_of s).tensors.layout)) n
    ∙ parted_all layout_places (the_layout [] 0) no_layout _ _ _ (sheet_of s).tensors.layouts (sheet_of s).tensors.layout (outlined_within p.0.1).tensors.layouts p.0.1.stands.layout

use mathlib.Core.List.{◌++◌}
use native.Mathlib.Omega.{arith}
use lib.ListN.{length-append}
use Rattle.numbers.specs.Laws.Lists.{puts_after}
use Rattle.sheet_ranges.specs.Laws.Within.{within, within_places}
use Rattle.fields.specs.Bytes.{field_bytes}
use Rattle.sheet_bytes.specs.Bytes.{edition_field}
use Rattle.fields.specs.Laws.Puts.{puts_at}
use Rattle.sheet_writer.specs.Bytes.{layouts_bytes, views_bytes, steps_bytes, sheet_bytes}
use Rattle.sheet_writer.specs.Laws.Lengths.{length-sheet}
use Rattle.sheet_writer.proofs.put_sheet.Goals as goal

pub put_edition-requires : goal.put_edition-requires
put_edition-requires c =
    let sh = c.args.model in
    let e = length-sheet sh in
    omega arith

pub put_layouts-views_at-requires : goal.put_layouts-views_at-requires
put_layouts-views_at-requires c =
    let sh = c.args.model in
    let ok = c.requires.0 in
    let e = length-sheet sh in
    let w = (within sh ok).tensors in
    (w.layouts, w.layout, omega arith)

pub put_views-steps_at-requires : goal.put_views-steps_at-requires
put_views-steps_at-requires c =
    let sh = c.args.model in
    let ok = c.requires.0 in
    let e = length-sheet sh in
    let w = (within sh ok).tensors in
    (w.views, w.view, omega arith)

pub put_steps-requires : goal.put_steps-requires
put_steps-requires c =
    let sh = c.args.model in
    let ok = c.requires.0 in
    let e = length-sheet sh in
    (within_places (within sh ok), omega arith)

pub returns : goal.returns
unfolding sheet_bytes field_bytes
returns c =
    let a = c.args in
    let sh = a.model in
    let o = a.out.now in
    let e = length-sheet sh in
    let edition = edition_field sh.edition in
    let layouts = layouts_bytes sh.tensors.layouts sh.tensors.layout in
    let views = views_bytes sh.tensors.views sh.tensors.view in
    let steps = steps_bytes sh.edition sh.steps sh.step in
    let l = c.put_layouts-views_at.ensures in
    let v = c.put_views-steps_at.ensures in
    let s = c.put_steps.ensures in (
      omega arith,
      puts_at o 0 (edition ++ layouts ++ views) steps (simp length-append (omega arith))
          (puts_at o 0 (edition ++ layouts) views (simp length-append (omega arith))
          (puts_after o 0 edition layouts c.put_edition.ensures l.1)
          v.1)
          s.1,
    )

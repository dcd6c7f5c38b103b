-- How many bytes a sheet takes.
use Rattle.std.specs.Prelude.{◌+◌, ◌≡◌, [], ◌∷◌, length}
use Rattle.std.proofs.Common.{arith, length-append}
use Rattle.sheet.specs.Codes.{edition_tag}
use Rattle.sheet.specs.declared.Sheet.{Sheet}
use Rattle.fields.specs.Laws.Lengths.{length_field}
use Rattle.sheet_writer.specs.Bytes.{layouts_bytes, views_bytes, steps_bytes, sheet_bytes}

pub length-sheet :
    (sh : Sheet)
    → length (sheet_bytes sh)
    ≡ 4
    + length (layouts_bytes sh.tensors.layouts sh.tensors.layout)
    + length (views_bytes sh.tensors.views sh.tensors.view)
    + length (steps_bytes sh.edition sh.steps sh.step)
unfolding sheet_bytes
length-sheet sh = let e = length_field edition_tag (sh.edition ∷ []) in simp length-append (omega arith)

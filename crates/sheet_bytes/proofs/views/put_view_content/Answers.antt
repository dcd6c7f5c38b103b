use mathlib.Core.List.{[], ◌∷◌, ◌++◌, append_assoc}
use native.Mathlib.Omega.{arith}
use lib.ListN.{length-append}
use Rattle.numbers.specs.Laws.Lists.{puts_after}
use Rattle.tensor_ranges.specs.Views.{sized_rank}
use Rattle.sheet_bytes.specs.Bytes.{entries_bytes, view_dimensions_bytes, clip_bytes, view_bytes}
use Rattle.sheet.specs.Codes.{flag_code}
use Rattle.fields.specs.Laws.Puts.{puts_at}
use Rattle.sheet_bytes.specs.Laws.Lengths.{length_entries, length_view_dimensions}
use Rattle.sheet_bytes.proofs.views.put_view_content.Goals as goal

pub returns : goal.returns
unfolding view_bytes
returns c =
    let a = c.args in
    let v = a.v in
    let o = a.out.now in
    let s = c.sized_rank-own.ensures in
    let p = length_entries v.rank v.permutation in
    let d = length_view_dimensions (sized_rank v.sized v.rank) v.dimensions in
    let head = v.rank ∷ flag_code v.sized ∷ [] in
    let entries = entries_bytes v.rank v.permutation in
    let dimensions = view_dimensions_bytes (sized_rank v.sized v.rank) v.dimensions in
    rw (append_assoc (head ++ entries ++ dimensions) (clip_bytes v.rows) (clip_bytes v.columns))
    (puts_at o a.at (head ++ entries ++ dimensions) (clip_bytes v.rows ++ clip_bytes v.columns) (simp length-append (omega arith))
    (puts_at o a.at (head ++ entries) dimensions (omega arith)
    (puts_after o a.at head entries (rw c.flag_code.ensures at c.put_pair.ensures) c.put_permutation.ensures)
    (rw s at c.put_view_dimensions.ensures))
    c.put_clips.ensures)

-- How many bytes the content of each field takes.
use Rattle.std.specs.Prelude.{ℕ, ◌+◌, ◌*◌, ◌≤◌, ◌≡◌, refl, Bool, List, length}
use Rattle.std.proofs.Common.{arith, length-append}
use Rattle.numbers.specs.Laws.Choice.{pick_case}
use Rattle.numbers.specs.Laws.Joins.{length_each}
use Rattle.tensor_ranges.specs.Layouts.{the_dimension}
use Rattle.tensor_ranges.specs.Views.{the_view_dimension, sized_rank}
use Rattle.sheet.specs.declared.Dimension.{Dimension}
use Rattle.sheet.specs.declared.Layout.{Layout}
use Rattle.sheet.specs.declared.ViewDimension.{ViewDimension}
use Rattle.sheet.specs.declared.Clip.{Clip}
use Rattle.sheet.specs.declared.View.{View}
use Rattle.sheet_bytes.specs.Bytes.{dimension_bytes, dimensions_bytes, layout_bytes, entries_bytes, view_dimension_bytes, view_dimensions_bytes, clip_bytes, view_bytes}

pub length_dimension : (d : Dimension) → length (dimension_bytes d) ≡ 10
unfolding dimension_bytes
length_dimension d = refl

pub length_dimensions : (n : ℕ) (ds : List Dimension) → length (dimensions_bytes n ds) ≡ n * 10
length_dimensions n ds = length_each 10 n _ (λ k h. length_dimension (the_dimension ds k))

pub length_layout : (l : Layout) → length (layout_bytes l) ≡ 6 + l.rank * 10
unfolding layout_bytes
length_layout l = let e = length_dimensions l.rank l.dimensions in omega arith

pub length_entries : (n : ℕ) (p : List ℕ) → length (entries_bytes n p) ≡ n * 1
length_entries n p = length_each 1 n _ (λ k h. refl)

pub length_view_dimension : (d : ViewDimension) → length (view_dimension_bytes d) ≡ 4
unfolding view_dimension_bytes
length_view_dimension d = refl

pub length_view_dimensions : (n : ℕ) (ds : List ViewDimension) → length (view_dimensions_bytes n ds) ≡ n * 4
length_view_dimensions n ds = length_each 4 n _ (λ k h. length_view_dimension (the_view_dimension ds k))

pub length_clip : (c : Clip) → length (clip_bytes c) ≡ 4
unfolding clip_bytes
length_clip c = refl

pub length_view : (v : View) → length (view_bytes v) ≡ 10 + v.rank + sized_rank v.sized v.rank * 4
unfolding view_bytes
length_view v =
    let p = length_entries v.rank v.permutation in
    let d = length_view_dimensions (sized_rank v.sized v.rank) v.dimensions in
    let r = length_clip v.rows in
    let c = length_clip v.columns in
    simp length-append (omega arith)

pub sized_within : (sized : Bool) (rank : ℕ) → sized_rank sized rank ≤ rank
unfolding sized_rank
sized_within sized rank = pick_case (λ (n : ℕ). n ≤ rank) sized rank 0 (λ e. omega arith) (λ e. omega arith)

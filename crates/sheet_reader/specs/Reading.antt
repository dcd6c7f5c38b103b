-- A sheet, field by field: first the edition, then layouts, views, steps; refusals 1, 2, 3, 4, 6, 5 in this order at each field.
use Rattle.std.specs.Prelude.{ℕ, zero, suc, ◌+◌, List, Bool, length, get_or, set, ltb, eqb}
use Rattle.numbers.specs.Choice.{pick, both}
use Rattle.refusals.specs.Refusals.{cut_short, unknown_tag, out_of_order, wrong_length, beyond_sizes, unknown_edition, refusal_at, not_refused}
use Rattle.sheet.specs.Sizes.{layout_places, view_places}
use Rattle.sheet.specs.Editions.{edition_ok, tag_known, limits}
use Rattle.sheet.specs.Codes.{edition_tag, layout_tag, view_tag, fill_tag, last_step_tag}
use Rattle.tensor_ranges.specs.Layouts.{layout_ok}
use Rattle.tensor_ranges.specs.Views.{view_ok}
use Rattle.sheet_ranges.specs.Steps.{step_ok}
use Rattle.sheet_ranges.specs.Sheets.{empty_sheet}
use Rattle.sheet.specs.declared.Layout.{Layout}
use Rattle.sheet.specs.declared.View.{View}
use Rattle.sheet.specs.declared.Step.{Step}
use Rattle.sheet.specs.declared.Tensors.{Tensors}
use Rattle.sheet.specs.declared.Sheet.{Sheet}
use Rattle.fields.specs.Fields.{field_at}
use Rattle.fields.specs.declared.Field.{Field}
use Rattle.fields.specs.declared.Field.TheVariants.{Whole, Short}
use Rattle.contents.specs.Contents.{layout_at, layout_length_ok, layout_head_ok, view_at, view_length_ok, view_head_ok}
use Rattle.step_contents.specs.Contents.{step_at, step_length}
use Rattle.sheet_reader.specs.declared.Given.{Given}
use Rattle.sheet_reader.specs.declared.ReadAnswer.{ReadAnswer}

-- what a sheet has so far
abbrev pub given_of : Sheet → Given
given_of sh = record { edition = sh.edition; layouts = sh.tensors.layouts; views = sh.tensors.views; steps = sh.steps }

-- refusal 3: each part stands in its order, and there are not too many
unfoldable pub layout_may_come : Given → Bool
layout_may_come g = both (ltb 0 g.edition) (both (eqb g.views 0) (both (eqb g.steps 0) (ltb g.layouts layout_places)))

unfoldable pub view_may_come : Given → Bool
view_may_come g = both (ltb 0 g.edition) (both (eqb g.steps 0) (ltb g.views view_places))

unfoldable pub step_may_come : Given → Bool
step_may_come g = both (ltb 0 g.edition) (ltb g.steps (limits g.edition).steps)

-- refusals 3, 4, 6 and 5 of a field (of a step's tag also 2, by the edition) whose content is the len bytes from p; 0 where it is taken
unfoldable pub edition_refusal : List ℕ → ℕ → ℕ → Given → ℕ
edition_refusal s p len g =
    pick (ltb 0 g.edition) out_of_order
    (pick (eqb len 1)
    (pick (edition_ok (get_or s p 0)) 0 unknown_edition)
    wrong_length)

unfoldable pub layout_refusal : List ℕ → ℕ → ℕ → Given → ℕ
layout_refusal s p len g =
    pick (layout_may_come g)
    (pick (layout_length_ok len)
    (pick (layout_head_ok s p len)
    (pick (layout_ok (layout_at s p)) 0 beyond_sizes)
    beyond_sizes)
    wrong_length)
    out_of_order

unfoldable pub view_refusal : List ℕ → ℕ → ℕ → Given → ℕ
view_refusal s p len g =
    pick (view_may_come g)
    (pick (view_length_ok len)
    (pick (view_head_ok s p len)
    (pick (view_ok (view_at s p)) 0 beyond_sizes)
    beyond_sizes)
    wrong_length)
    out_of_order

unfoldable pub step_refusal : List ℕ → ℕ → ℕ → ℕ → Given → ℕ
step_refusal s tag p len g =
    pick (tag_known g.edition tag)
    (pick (step_may_come g)
    (pick (eqb len (step_length g.edition tag))
    (pick (step_ok g.edition g.layouts g.views (step_at g.edition s tag p)) 0 beyond_sizes)
    wrong_length)
    out_of_order)
    unknown_tag

-- the tag chooses: edition, layout, view, a step, or refusal 2
unfoldable pub field_refusal : List ℕ → ℕ → ℕ → ℕ → Given → ℕ
field_refusal s tag p len g =
    pick (eqb tag edition_tag) (edition_refusal s p len g)
    (pick (eqb tag layout_tag) (layout_refusal s p len g)
    (pick (eqb tag view_tag) (view_refusal s p len g)
    (pick (ltb tag fill_tag) unknown_tag
    (pick (ltb tag (suc last_step_tag)) (step_refusal s tag p len g)
    unknown_tag))))

-- the sheet with one part more
abbrev pub with_edition : Sheet → ℕ → Sheet
with_edition sh edition = record { edition = edition; tensors = sh.tensors; steps = sh.steps; step = sh.step }

abbrev pub more_layout : Tensors → Layout → Tensors
more_layout t l = record { layouts = t.layouts + 1; layout = set t.layout t.layouts l; views = t.views; view = t.view }

abbrev pub more_view : Tensors → View → Tensors
more_view t v = record { layouts = t.layouts; layout = t.layout; views = t.views + 1; view = set t.view t.views v }

abbrev pub with_tensors : Sheet → Tensors → Sheet
with_tensors sh t = record { edition = sh.edition; tensors = t; steps = sh.steps; step = sh.step }

abbrev pub with_step : Sheet → Step → Sheet
with_step sh p =
    record { edition = sh.edition; tensors = sh.tensors; steps = sh.steps + 1; step = set sh.step sh.steps (record { step = p }) }

-- the part that a field adds where it is not refused
unfoldable pub with_field : List ℕ → ℕ → ℕ → Sheet → Sheet
with_field s tag p sh =
    pick (eqb tag edition_tag) (with_edition sh (get_or s p 0))
    (pick (eqb tag layout_tag) (with_tensors sh (more_layout sh.tensors (layout_at s p)))
    (pick (eqb tag view_tag) (with_tensors sh (more_view sh.tensors (view_at s p)))
    (with_step sh (step_at sh.edition s tag p))))

-- refused: an empty sheet beside the number and the place, which is a byte
unfoldable pub refused_read : ℕ → ℕ → ReadAnswer
refused_read n place = record { refusal = refusal_at n place 0; sheet = empty_sheet }

unfoldable pub accepted_read : Sheet → ReadAnswer
accepted_read sh = record { refusal = not_refused; sheet = sh }

-- at the end: 3 where there is no edition
unfoldable pub end_read : Sheet → ℕ → ReadAnswer
end_read sh place = pick (ltb sh.edition 1) (refused_read out_of_order place) (accepted_read sh)

-- one field: reading is over, or goes on at a byte with a sheet
pub data Turn : Type 0 where
  over : ReadAnswer → Turn
  on : ℕ → Sheet → Turn

unfoldable pub turn_field : List ℕ → ℕ → Sheet → Field → Turn
turn_field s at sh (Whole tag start len next) =
    pick (eqb (field_refusal s tag start len (given_of sh)) 0)
    (on next.at (with_field s tag start sh))
    (over (refused_read (field_refusal s tag start len (given_of sh)) at))
turn_field s at sh Short = over (refused_read cut_short at)

unfoldable pub turn : List ℕ → ℕ → Sheet → Turn
turn s at sh = pick (ltb at (length s)) (turn_field s at sh (field_at s at)) (over (end_read sh (length s)))

unfoldable pub after_turn : (ℕ → Sheet → ReadAnswer) → Turn → ReadAnswer
after_turn f (over r) = r
after_turn f (on at sh) = f at sh

-- at most n turns more, from a byte on; the last clause is never reached from read_sheet
unfoldable pub read_from : ℕ → List ℕ → ℕ → Sheet → ReadAnswer
read_from zero s at sh = refused_read cut_short at
read_from (suc n) s at sh = after_turn (read_from n s) (turn s at sh)

-- each field has three bytes at least, so one turn more than there are bytes is enough
unfoldable pub read_sheet : List ℕ → ReadAnswer
read_sheet s = read_from (suc (length s)) s 0 empty_sheet

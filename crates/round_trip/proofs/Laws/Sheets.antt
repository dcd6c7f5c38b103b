-- The bytes of a whole sheet: with one part more, and how many there can be.
use Rattle.std.specs.Prelude.{ℕ, ◌<◌, ◌≤◌, ◌≡◌, length}
use Rattle.std.proofs.Math.Path.{sym, ap}
use Rattle.std.proofs.Common.{◌∙◌, arith}
use mathlib.Core.List.{List, [], ◌++◌, append_assoc, append-nil}
use Rattle.numbers.specs.Lists.{each}
use Rattle.numbers.specs.Laws.Lists.{each_none}
use Rattle.numbers.specs.Laws.Joins.{each_set, each_short}
use Rattle.sheet.specs.Codes.{layout_tag, view_tag}
use Rattle.tensor_ranges.specs.Layouts.{the_layout}
use Rattle.tensor_ranges.specs.Views.{the_view}
use Rattle.sheet_ranges.specs.Steps.{no_cell, the_step}
use Rattle.tensor_ranges.specs.Laws.Facts.{layout_most, view_most}
use Rattle.sheet_ranges.specs.Laws.Within.{Within, within_places}
use Rattle.sheet.specs.declared.Layout.{Layout}
use Rattle.sheet.specs.declared.View.{View}
use Rattle.sheet.specs.declared.Step.{Step}
use Rattle.sheet.specs.declared.Cell.{Cell}
use Rattle.sheet.specs.declared.Sheet.{Sheet}
use Rattle.sheet_reader.specs.Reading.{more_layout, more_view, with_tensors, with_step}
use Rattle.sheet_bytes.specs.Bytes.{edition_field, layout_bytes, layout_field, view_bytes, view_field}
use Rattle.fields.specs.Laws.Lengths.{length_field}
use Rattle.sheet_bytes.specs.Laws.Lengths.{length_layout, length_view, sized_within}
use Rattle.step_bytes.specs.Bytes.{step_tag, step_bytes, step_field}
use Rattle.sheet_writer.specs.Bytes.{layouts_bytes, views_bytes, steps_bytes, sheet_bytes}
use Rattle.sheet_writer.specs.Laws.Lengths.{length-sheet}
use Rattle.round_trip.specs.Longest.{longest_layout, longest_view, longest_step, longest}
use Rattle.round_trip.proofs.Laws.Steps.{step_short}

-- what is put last goes before nothing
past_none : (a f c : List ℕ) → c ≡ [] → a ++ f ++ c ≡ a ++ c ++ f
past_none a f c e = rw (e, append-nil (a ++ f), append-nil a)

none_given : (n : ℕ) (f : ℕ → List ℕ) → n ≡ 0 → each n f ≡ []
none_given n f e = rw e (each_none f)

-- the bytes of a sheet with one part more
module _ (sh : Sheet) where
  abbrev of_edition : List ℕ
  of_edition = edition_field sh.edition

  abbrev of_layouts : List ℕ
  of_layouts = layouts_bytes sh.tensors.layouts sh.tensors.layout

  abbrev of_views : List ℕ
  of_views = views_bytes sh.tensors.views sh.tensors.view

  abbrev of_steps : List ℕ
  of_steps = steps_bytes sh.edition sh.steps sh.step

  pub bytes_layout : (l : Layout) → sh.tensors.layouts < length sh.tensors.layout → sh.tensors.views ≡ 0 → sh.steps ≡ 0 → sheet_bytes (with_tensors sh (more_layout sh.tensors l)) ≡ sheet_bytes sh ++ layout_field l
  unfolding sheet_bytes
  bytes_layout l h v e =
      let f = layout_field l in
      ap (λ (b : List ℕ). of_edition ++ b ++ of_views ++ of_steps)
      (each_set layout_field (the_layout [] 0) sh.tensors.layout sh.tensors.layouts l h)
      ∙ ap (λ (b : List ℕ). b ++ of_views ++ of_steps) (sym (append_assoc of_edition of_layouts f))
      ∙ ap (λ (b : List ℕ). b ++ of_steps) (past_none (of_edition ++ of_layouts) f of_views (none_given sh.tensors.views _ v))
      ∙ past_none (of_edition ++ of_layouts ++ of_views) f of_steps (none_given sh.steps _ e)

  pub bytes_view : (v : View) → sh.tensors.views < length sh.tensors.view → sh.steps ≡ 0 → sheet_bytes (with_tensors sh (more_view sh.tensors v)) ≡ sheet_bytes sh ++ view_field v
  unfolding sheet_bytes
  bytes_view v h e =
      let f = view_field v in
      ap (λ (b : List ℕ). of_edition ++ of_layouts ++ b ++ of_steps)
      (each_set view_field (the_view [] 0) sh.tensors.view sh.tensors.views v h)
      ∙ ap (λ (b : List ℕ). b ++ of_steps) (sym (append_assoc (of_edition ++ of_layouts) of_views f))
      ∙ past_none (of_edition ++ of_layouts ++ of_views) f of_steps (none_given sh.steps _ e)

  pub bytes_step : (st : Step) → sh.steps < length sh.step → sheet_bytes (with_step sh st) ≡ sheet_bytes sh ++ step_field sh.edition st
  unfolding sheet_bytes
  bytes_step st h =
      ap (λ (b : List ℕ). of_edition ++ of_layouts ++ of_views ++ b)
      (each_set (λ (c : Cell). step_field sh.edition c.step) no_cell sh.step sh.steps (record { step = st }) h)
      ∙ sym (append_assoc (of_edition ++ of_layouts ++ of_views) of_steps (step_field sh.edition st))

module _ (sh : Sheet) (w : Within sh) where
  layout_short : (k : ℕ) → k < sh.tensors.layouts → length (layout_field (the_layout sh.tensors.layout k)) ≤ longest_layout
  layout_short k h =
      let l = the_layout sh.tensors.layout k in
      omega (arith, length_field layout_tag (layout_bytes l), length_layout l, layout_most l (w.tensors.layout.given k h))

  view_short : (k : ℕ) → k < sh.tensors.views → length (view_field (the_view sh.tensors.view k)) ≤ longest_view
  view_short k h =
      let v = the_view sh.tensors.view k in
      omega (arith, length_field view_tag (view_bytes v), length_view v, view_most v (w.tensors.view.given k h), sized_within v.sized v.rank)

  steps_short : (k : ℕ) → k < sh.steps → length (step_field sh.edition (the_step sh.step k)) ≤ longest_step
  steps_short k h =
      let st = the_step sh.step k in
      omega (arith, length_field (step_tag st) (step_bytes sh.edition st), step_short sh.edition st)

  pub sheet_short : length (sheet_bytes sh) ≤ longest
  sheet_short =
      omega (
        arith,
        w.tensors.layouts,
        w.tensors.views,
        within_places w,
        length-sheet sh,
        each_short longest_layout sh.tensors.layouts (λ (k : ℕ). layout_field (the_layout sh.tensors.layout k)) layout_short,
        each_short longest_view sh.tensors.views (λ (k : ℕ). view_field (the_view sh.tensors.view k)) view_short,
        each_short longest_step sh.steps (λ (k : ℕ). step_field sh.edition (the_step sh.step k)) steps_short,
      )

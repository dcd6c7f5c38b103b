-- Where a part stands, and what its field says.
use Rattle.std.specs.Prelude.{ℕ, ◌+◌, ◌<◌, ◌≤◌, ◌≡◌, refl, true, List, length, get_or, replicate}
use Rattle.std.proofs.Common.{sym, ap, subst, ◌∙◌, zero-add, arith}
use Rattle.numbers.specs.Lists.{line}
use Rattle.numbers.specs.Laws.Places.{places_are}
use Rattle.sheet.specs.Sizes.{layout_places, view_places, step_places}
use Rattle.sheet.specs.declared.Layout.{Layout}
use Rattle.sheet.specs.declared.View.{View}
use Rattle.sheet.specs.declared.Cell.{Cell}
use Rattle.tensor_ranges.specs.Layouts.{the_layout}
use Rattle.tensor_ranges.specs.Views.{the_view}
use Rattle.sheet_ranges.specs.Steps.{no_cell}
use Rattle.sheet_ranges.specs.Sheets.{empty_sheet}
use Rattle.sheet_ranges.specs.Laws.Within.{Within, within_places}
use Rattle.fields.specs.Fields.{field_at}
use Rattle.fields.specs.Laws.Bounds.{field_in}
use Rattle.fields.specs.declared.Cursor.{Cursor}
use Rattle.fields.specs.declared.Field.{Field}
use Rattle.fields.specs.declared.Field.TheVariants.{Whole, Short}
use Rattle.contents.specs.Contents.{layout_at, layout_head_ok, view_at, view_head_ok}
use Rattle.step_contents.specs.Contents.{step_at, step_length}
use Rattle.step_contents.specs.Judged.{judged}
use Rattle.step_contents.specs.Laws.Judged.{judged_some}
use Rattle.sheet_reader.specs.Parts.{first_view, first_step, LayoutIn, ViewIn, StepIn, Parted, sheet_of, Outlined}
use Rattle.sheet_reader.specs.Reading.{refused_read, read_sheet}
use Rattle.sheet_reader.specs.Laws.Growing.{refused, read_within}
use Rattle.sheet_reader.specs.declared.Given.{Given}
use Rattle.sheet_reader.specs.declared.ReadAnswer.{ReadAnswer}
use Rattle.sheet_parts.specs.Cells.{no_cells}

pub outlined_within : {s parts : List ℕ} {g : Given} → Outlined s parts g → Within (sheet_of s)
outlined_within {s} o = read_within s o.read

-- where each part stands, and that it has a place
module _ {s parts : List ℕ} {g : Given} (o : Outlined s parts g) (k : ℕ) where
  pub layout_place : k < (sheet_of s).tensors.layouts → k < layout_places
  layout_place h = omega (arith, (outlined_within o).tensors.layouts)

  pub layout_here : k < (sheet_of s).tensors.layouts → LayoutIn s (get_or parts k 0) (the_layout (sheet_of s).tensors.layout k)
  layout_here h = rw zero-add at (o.stands.layout.given k h)

  pub view_place : k < (sheet_of s).tensors.views → k < view_places
  view_place h = omega (arith, (outlined_within o).tensors.views)

  pub view_here : k < (sheet_of s).tensors.views → ViewIn s (get_or parts (first_view + k) 0) (the_view (sheet_of s).tensors.view k)
  view_here h = o.stands.view.given k h

  its_steps : k < g.steps → k < (sheet_of s).steps
  its_steps h = rw o.given at h

  pub step_place : k < g.steps → k < step_places
  step_place h = omega (arith, its_steps h, within_places (outlined_within o))

  pub step_here : k < g.steps → StepIn s g.edition g.layouts g.views (get_or parts (first_step + k) 0) (get_or (sheet_of s).step k no_cell)
  step_here h =
      subst (λ (x : Given). StepIn s x.edition x.layouts x.views (get_or parts (first_step + k) 0) (get_or (sheet_of s).step k no_cell)) (sym o.given)
      (o.stands.step.given k (its_steps h))

-- a whole field is the one that stands there
field_same : {f : Field} {tag start len tag' start' len' : ℕ} {next next' : Cursor} → f ≡ Whole tag start len next → f ≡ Whole tag' start' len' next' → (tag ≡ tag') × (start ≡ start') × (len ≡ len')
field_same e f = (cc, cc, cc)

pub field_short : {f : Field} {tag start len : ℕ} {next : Cursor} → f ≡ Whole tag start len next → f ≡ Short → ⊥
field_short e f = let z : ◌≡◌ {A = ℕ} 0 1 = cc in absurd (omega (arith, z))

-- what is asked of the content of the field that stands there, and what it says
module _ {s : List ℕ} {at tag start len : ℕ} {next : Cursor} (e : field_at s at ≡ Whole tag start len next) where
  pub layout_content : {l : Layout} → LayoutIn s at l → ((2 ≤ len) × (start + len ≤ length s) × (layout_head_ok s start len ≡ true)) × (layout_at s start ≡ l)
  layout_content i =
      let q = field_same e i.field in
      ((rw q.2 i.long, (field_in s at tag start len next e).within, rw (q.1, q.2) i.head), rw q.1 (sym i.says))

  pub view_content : {v : View} → ViewIn s at v → ((2 ≤ len) × (start + len ≤ length s) × (view_head_ok s start len ≡ true)) × (view_at s start ≡ v)
  view_content i =
      let q = field_same e i.field in
      ((rw q.2 i.long, (field_in s at tag start len next e).within, rw (q.1, q.2) i.head), rw q.1 (sym i.says))

  pub step_content : {edition layouts views : ℕ} {c : Cell} → StepIn s edition layouts views at c
      → (start + step_length edition tag ≤ length s) × (judged edition layouts views (step_at edition s tag start) ≡ c.step)
  step_content {edition} {layouts} {views} i =
      let q = field_same e i.field in
      let long : len ≡ step_length edition tag = q.2 ∙ i.long ∙ ap (step_length edition) (sym q.0) in
      (rw long at (field_in s at tag start len next e).within, rw (q.0, q.1) (sym (judged_some edition layouts views refl i.ok) ∙ sym i.says))

-- places filled one by one with what stands in a list are the list
pub parted_all : {A : Type 0} (N : ℕ) (d none : A) (In : ℕ → A → Type 0) (parts : List ℕ) (first n : ℕ) (xs : List A) → n ≤ N → Parted N d none In parts first n xs
    → line (replicate N none) 0 (λ (k : ℕ). get_or xs k d) n ≡ xs
parted_all N d none In parts first n xs h w =
    places_are N none d (λ (k : ℕ). get_or xs k d) n h xs w.count (λ k l. refl) w.past

pub steps_all : {s parts : List ℕ} {g : Given} → Outlined s parts g → line no_cells 0 (λ (k : ℕ). get_or (sheet_of s).step k no_cell) g.steps ≡ (sheet_of s).step
unfolding no_cells
steps_all {s} {parts} {g} o =
    ap (λ (x : Given). line no_cells 0 (λ (k : ℕ). get_or (sheet_of s).step k no_cell) x.steps) o.given
    ∙ parted_all step_places no_cell no_cell _ parts first_step (sheet_of s).steps (sheet_of s).step (within_places (outlined_within o)) o.stands.step

-- a refused reading gives an empty sheet
pub refused_empty : (s : List ℕ) → 0 < (read_sheet s).refusal.number → empty_sheet ≡ sheet_of s
unfolding refused_read
refused_empty s h = sym (ap (λ (r : ReadAnswer). r.sheet) (refused s h))

-- How the code holds a sheet: its parts stay in its bytes, and a list tells where the field of each begins.
use Rattle.std.specs.Prelude.{ℕ, ◌+◌, ◌<◌, ◌≤◌, ◌≡◌, true, List, [], eqb, length, get_or, set}
use Rattle.numbers.specs.Choice.{pick}
use Rattle.sheet.specs.Sizes.{layout_places, view_places, step_places}
use Rattle.sheet.specs.Codes.{edition_tag, layout_tag, view_tag}
use Rattle.sheet.specs.declared.Layout.{Layout}
use Rattle.sheet.specs.declared.View.{View}
use Rattle.sheet.specs.declared.Cell.{Cell}
use Rattle.sheet.specs.declared.Sheet.{Sheet}
use Rattle.tensor_ranges.specs.Layouts.{no_layout, the_layout}
use Rattle.tensor_ranges.specs.Views.{no_view, the_view}
use Rattle.sheet_ranges.specs.Steps.{no_cell, step_ok}
use Rattle.fields.specs.Fields.{field_at}
use Rattle.fields.specs.declared.Cursor.{Cursor}
use Rattle.fields.specs.declared.Field.TheVariants.{Whole}
use Rattle.contents.specs.Contents.{layout_at, layout_head_ok, view_at, view_head_ok}
use Rattle.step_contents.specs.Contents.{step_at, step_length}
use Rattle.sheet_reader.specs.Reading.{given_of, read_sheet}
use Rattle.sheet_reader.specs.declared.Given.{Given}
use Rattle.sheet_reader.specs.declared.Outline.{Outline}
use Rattle.sheet_reader.specs.declared.ReadAnswer.{ReadAnswer}

-- a place for each layout, then for each view, then for each step
abbrev pub first_view : ℕ
first_view = layout_places

abbrev pub first_step : ℕ
first_step = first_view + view_places

abbrev pub part_places : ℕ
part_places = first_step + step_places

-- what a sheet has with one part more
abbrev pub given_edition : ℕ → Given → Given
given_edition edition g = record { edition = edition; layouts = g.layouts; views = g.views; steps = g.steps }

abbrev pub given_layout : Given → Given
given_layout g = record { edition = g.edition; layouts = g.layouts + 1; views = g.views; steps = g.steps }

abbrev pub given_view : Given → Given
given_view g = record { edition = g.edition; layouts = g.layouts; views = g.views + 1; steps = g.steps }

abbrev pub given_step : Given → Given
given_step g = record { edition = g.edition; layouts = g.layouts; views = g.views; steps = g.steps + 1 }

-- the part that a field adds, by its tag: what the sheet then has, and where its parts stand
unfoldable pub more_given : List ℕ → ℕ → ℕ → Given → Given
more_given s tag p g =
    pick (eqb tag edition_tag) (given_edition (get_or s p 0) g)
    (pick (eqb tag layout_tag) (given_layout g)
    (pick (eqb tag view_tag) (given_view g)
    (given_step g)))

unfoldable pub more_parts : ℕ → ℕ → Given → List ℕ → List ℕ
more_parts tag at g parts =
    pick (eqb tag edition_tag) parts
    (pick (eqb tag layout_tag) (set parts g.layouts at)
    (pick (eqb tag view_tag) (set parts (first_view + g.views) at)
    (set parts (first_step + g.steps) at)))

-- a field at a byte that says a layout, a view, or a step within Sizes
pub record LayoutIn (s : List ℕ) (at : ℕ) (l : Layout) : Type 0 where
  pub len : ℕ
  pub next : Cursor
  pub field : field_at s at ≡ Whole layout_tag (at + 3) len next
  pub long : 2 ≤ len
  pub head : layout_head_ok s (at + 3) len ≡ true
  pub says : l ≡ layout_at s (at + 3)

pub record ViewIn (s : List ℕ) (at : ℕ) (v : View) : Type 0 where
  pub len : ℕ
  pub next : Cursor
  pub field : field_at s at ≡ Whole view_tag (at + 3) len next
  pub long : 2 ≤ len
  pub head : view_head_ok s (at + 3) len ≡ true
  pub says : v ≡ view_at s (at + 3)

pub record StepIn (s : List ℕ) (edition layouts views at : ℕ) (c : Cell) : Type 0 where
  pub tag : ℕ
  pub len : ℕ
  pub next : Cursor
  pub field : field_at s at ≡ Whole tag (at + 3) len next
  pub long : len ≡ step_length edition tag
  pub ok : step_ok edition layouts views (step_at edition s tag (at + 3)) ≡ true
  pub says : c.step ≡ step_at edition s tag (at + 3)

-- the first n of N places hold what the fields say whose bytes stand from place `first` of the list on, the others nothing
pub record Parted {A : Type 0} (N : ℕ) (d none : A) (In : ℕ → A → Type 0) (parts : List ℕ) (first n : ℕ) (xs : List A) : Type 0 where
  pub count : length xs ≡ N
  pub given : (k : ℕ) → k < n → In (get_or parts (first + k) 0) (get_or xs k d)
  pub past : (k : ℕ) → n ≤ k → k < N → get_or xs k d ≡ none

pub record Stands (s : List ℕ) (sh : Sheet) (parts : List ℕ) : Type 0 where
  pub places : length parts ≡ part_places
  pub layout : Parted layout_places (the_layout [] 0) no_layout (LayoutIn s) parts 0 sh.tensors.layouts sh.tensors.layout
  pub view : Parted view_places (the_view [] 0) no_view (ViewIn s) parts first_view sh.tensors.views sh.tensors.view
  pub step :
      Parted step_places no_cell no_cell (StepIn s sh.edition sh.tensors.layouts sh.tensors.views) parts first_step sh.steps sh.step

-- the sheet that bytes read as
abbrev pub sheet_of : List ℕ → Sheet
sheet_of s = (read_sheet s).sheet

-- an answer without the sheet's parts
abbrev pub outline_of : ReadAnswer → Outline
outline_of r = record { refusal = r.refusal; given = given_of r.sheet }

-- the sheet is read: what it has, and where its parts stand
pub record Outlined (s parts : List ℕ) (g : Given) : Type 0 where
  pub read : (read_sheet s).refusal.number ≡ 0
  pub given : g ≡ given_of (sheet_of s)
  pub stands : Stands s (sheet_of s) parts

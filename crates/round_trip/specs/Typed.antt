-- What the language itself guarantees of a model and a record of lists and numbers does not show: each array has its number of places, and
-- each number fits its type. Of the numbers only those are named whose range no judge of the model tests.
use Rattle.std.specs.Prelude.{ℕ, ◌<◌, ◌≡◌, length}
use Rattle.sheet.specs.Sizes.{rank_places, layout_places, view_places, step_places}
use Rattle.tensor_ranges.specs.Layouts.{the_dimension, the_layout}
use Rattle.tensor_ranges.specs.Views.{the_view_dimension, the_view}
use Rattle.sheet_ranges.specs.Steps.{the_step}
use Rattle.sheet.specs.declared.Dimension.{Dimension}
use Rattle.sheet.specs.declared.Layout.{Layout}
use Rattle.sheet.specs.declared.Clip.{Clip}
use Rattle.sheet.specs.declared.View.{View}
use Rattle.sheet.specs.declared.VectorStep.{VectorStep}
use Rattle.sheet.specs.declared.WholeStep.{WholeStep}
use Rattle.sheet.specs.declared.WholeStep.TheVariants.{Fill, Reduce, Transpose, MultiplyAdd, Vector}
use Rattle.sheet.specs.declared.Step.{Step}
use Rattle.sheet.specs.declared.Step.TheVariants.{Nothing, Load, Store, Whole}
use Rattle.sheet.specs.declared.Sheet.{Sheet}

abbrev pub U16 : ℕ → Type 0
U16 x = x < 65536

abbrev pub U32 : ℕ → Type 0
U32 x = x < 4294967296

pub record DimensionFits (d : Dimension) : Type 0 where
  pub stride : U16 d.stride
  pub offset : U16 d.offset

pub record LayoutFits (l : Layout) : Type 0 where
  pub clamp : U32 l.clamp
  pub dimension : (k : ℕ) → DimensionFits (the_dimension l.dimensions k)

pub record ClipFits (c : Clip) : Type 0 where
  pub offset : U16 c.offset
  pub span : U16 c.span

pub record ViewFits (v : View) : Type 0 where
  pub stride : (k : ℕ) → U16 (the_view_dimension v.dimensions k).stride
  pub rows : ClipFits v.rows
  pub columns : ClipFits v.columns

pub record VectorFits (v : VectorStep) : Type 0 where
  pub stride : U16 v.stride
  pub offset : U32 v.offset
  pub bias : U32 v.bias

abbrev pub WholeFits : WholeStep → Type 0
WholeFits (Fill register rows columns kind value) = Unit {0}
WholeFits (Reduce result source rows columns mode combine) = Unit {0}
WholeFits (Transpose result source) = Unit {0}
WholeFits (MultiplyAdd result a b c) = Unit {0}
WholeFits (Vector v) = VectorFits v

abbrev pub StepFits : Step → Type 0
StepFits Nothing = Unit {0}
StepFits (Load register object window) = U32 window.base
StepFits (Store register window) = U32 window.base
StepFits (Whole whole) = WholeFits whole

abbrev pub LayoutArrays : Layout → Type 0
LayoutArrays l = length l.dimensions ≡ rank_places

pub record ViewArrays (v : View) : Type 0 where
  pub permutation : length v.permutation ≡ rank_places
  pub dimensions : length v.dimensions ≡ rank_places

-- each array has its places
pub record SheetArrays (sh : Sheet) : Type 0 where
  pub layout : length sh.tensors.layout ≡ layout_places
  pub view : length sh.tensors.view ≡ view_places
  pub step : length sh.step ≡ step_places
  pub layouts : (k : ℕ) → k < layout_places → LayoutArrays (the_layout sh.tensors.layout k)
  pub views : (k : ℕ) → k < view_places → ViewArrays (the_view sh.tensors.view k)

-- 16 and 32 bits
pub record SheetFits (sh : Sheet) : Type 0 where
  pub layouts : (k : ℕ) → LayoutFits (the_layout sh.tensors.layout k)
  pub views : (k : ℕ) → ViewFits (the_view sh.tensors.view k)
  pub steps : (k : ℕ) → StepFits (the_step sh.step k)

pub record Typed (sh : Sheet) : Type 0 where
  pub arrays : SheetArrays sh
  pub fits : SheetFits sh

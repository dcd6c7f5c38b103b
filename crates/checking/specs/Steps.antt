-- The check of one step: when it is refused, and the types that it leaves.
use Rattle.std.specs.Prelude.{ℕ, List, Bool, true, false}
use Rattle.numbers.specs.Choice.{pick}
use Rattle.kinds.specs.Widths.{bytes_of}
use Rattle.refusals.specs.Refusals.{empty_register, stop_at}
use Rattle.tensor_ranges.specs.Layouts.{the_layout}
use Rattle.tensor_ranges.specs.Views.{the_view, no_view}
use Rattle.sheet.specs.declared.View.{View}
use Rattle.sheet.specs.declared.Object.{Object}
use Rattle.sheet.specs.declared.Object.TheVariants.{Kept, Zeros, Register}
use Rattle.sheet.specs.declared.Viewing.{Viewing}
use Rattle.sheet.specs.declared.Viewing.TheVariants.{Plain, Through}
use Rattle.sheet.specs.declared.Window.{Window}
use Rattle.sheet.specs.declared.Tensors.{Tensors}
use Rattle.sheet.specs.declared.Step.{Step}
use Rattle.sheet.specs.declared.Step.TheVariants.{Nothing, Load, Store, Whole}
use Rattle.sheet.specs.declared.WholeStep.{WholeStep}
use Rattle.registers.specs.Types.{the_type, is_empty, with_type}
use Rattle.registers.specs.declared.MatrixType.{MatrixType}
use Rattle.whole_steps.specs.Refusals.{whole_refusal}
use Rattle.whole_steps.specs.Whole.{whole_types}
use Rattle.addressing.specs.declared.Access.{Access}
use Rattle.accesses.specs.Refusals.{checked_access}
use Rattle.accesses.specs.declared.Checked.{Checked}
use Rattle.checking.specs.declared.StepCheck.{StepCheck}

abbrev pub is_viewed : Viewing → Bool
is_viewed Plain = false
is_viewed (Through view) = true

abbrev pub view_named : Tensors → Viewing → View
view_named tensors Plain = no_view
view_named tensors (Through view) = the_view tensors.view view

-- a load or a store of a matrix of a type through a window, in a memory of a length
abbrev pub access_of : Tensors → Bool → Window → MatrixType → ℕ → Access
access_of tensors load window t len =
    record {
      load = load;
      layout = the_layout tensors.layout window.layout;
      viewed = is_viewed window.view;
      view = view_named tensors window.view;
      base = window.base;
      size = bytes_of t.kind;
      memory = len;
      rows = t.rows;
      columns = t.columns;
    }

-- the register that a load's object is in, or whose type it has; without an object that is the load's own
abbrev pub object_register : ℕ → Object → ℕ
object_register register Kept = register
object_register register Zeros = register
object_register register (Register object) = object

abbrev pub step_check : ℕ → List MatrixType → ℕ → StepCheck
step_check number types placed = record { stop = stop_at number 0; types = types; placed = placed }

abbrev pub moved_check : List MatrixType → Checked → StepCheck
moved_check types c = record { stop = c.stop; types = types; placed = c.placed }

-- refusal 7 of a load or a store of a matrix of type t, then 9 to 15; the types before and after it, and how many of its elements have a byte
unfoldable pub access_check : List MatrixType → List MatrixType → MatrixType → Access → StepCheck
access_check before after t a = pick (is_empty t) (step_check empty_register before 0) (moved_check after (checked_access a))

-- load gives its register the object's type
abbrev pub load_check : Tensors → List MatrixType → ℕ → ℕ → MatrixType → Window → StepCheck
load_check tensors types len register t window = access_check types (with_type types register t) t (access_of tensors true window t len)

abbrev pub store_check : Tensors → List MatrixType → ℕ → MatrixType → Window → StepCheck
store_check tensors types len t window = access_check types types t (access_of tensors false window t len)

abbrev pub whole_check : ℕ → List MatrixType → ℕ → WholeStep → StepCheck
whole_check edition types len whole =
    record { stop = whole_refusal edition types len whole; types = whole_types types whole; placed = 0 }

-- refusals 7 to 15 of a step, over the registers' types and the memory's length
unfoldable pub checked_step : ℕ → Tensors → List MatrixType → ℕ → Step → StepCheck
checked_step edition tensors types len Nothing = step_check 0 types 0
checked_step edition tensors types len (Load register object window) =
    load_check tensors types len register (the_type types (object_register register object)) window
checked_step edition tensors types len (Store register window) = store_check tensors types len (the_type types register) window
checked_step edition tensors types len (Whole whole) = whole_check edition types len whole

-- the types that a step leaves where it is not refused
abbrev pub step_types : List MatrixType → Step → List MatrixType
step_types types Nothing = types
step_types types (Load register object window) = with_type types register (the_type types (object_register register object))
step_types types (Store register window) = types
step_types types (Whole whole) = whole_types types whole

-- What a load or a store within Sizes names: a register, a layout and perhaps a view that are given, and an object in a register.
use Rattle.std.specs.Prelude.{ℕ, ◌<◌, ◌≡◌, true}
use borrow.Author.Tests.{ltb-true}
use Rattle.numbers.specs.Laws.Choice.{both_left, both_right}
use Rattle.sheet.specs.Sizes.{register_count}
use Rattle.sheet_ranges.specs.Steps.{object_ok, viewing_ok, window_ok, load_ok, store_ok}
use Rattle.sheet.specs.declared.Object.{Object}
use Rattle.sheet.specs.declared.Object.TheVariants.{Kept, Zeros, Register}
use Rattle.sheet.specs.declared.Window.{Window}
use Rattle.checking.specs.Steps.{object_register}

pub window_layout : (layouts views : ℕ) (w : Window) → window_ok layouts views w ≡ true → w.layout < layouts
unfolding window_ok
window_layout layouts views w e = ltb-true w.layout layouts (both_left _ _ e)

pub window_view : (layouts views : ℕ) (w : Window) → window_ok layouts views w ≡ true → viewing_ok views w.view ≡ true
unfolding window_ok
window_view layouts views w e = both_right _ _ e

module _ (layouts views register : ℕ) (window : Window) where
  pub store_register : store_ok layouts views register window ≡ true → register < register_count
  unfolding store_ok
  store_register e = ltb-true register register_count (both_left _ _ e)

  pub store_window : store_ok layouts views register window ≡ true → window_ok layouts views window ≡ true
  unfolding store_ok
  store_window e = both_right _ _ e

object_small : (edition register : ℕ) (object : Object) → register < register_count → object_ok edition object ≡ true → object_register register object < register_count
object_small edition register Kept h e = h
object_small edition register Zeros h e = h
object_small edition register (Register object) h e = ltb-true object register_count e

module _ (edition layouts views register : ℕ) (object : Object) (window : Window) where
  pub load_register : load_ok edition layouts views register object window ≡ true → register < register_count
  unfolding load_ok
  load_register e = ltb-true register register_count (both_left _ _ e)

  pub load_window : load_ok edition layouts views register object window ≡ true → window_ok layouts views window ≡ true
  unfolding load_ok
  load_window e = both_right _ _ (both_right _ _ e)

  load_object_ok : load_ok edition layouts views register object window ≡ true → object_ok edition object ≡ true
  unfolding load_ok
  load_object_ok e = both_left _ _ (both_right _ _ e)

  -- the object is in a register: its own, or another
  pub load_object : load_ok edition layouts views register object window ≡ true → object_register register object < register_count
  load_object e = object_small edition register object (load_register e) (load_object_ok e)

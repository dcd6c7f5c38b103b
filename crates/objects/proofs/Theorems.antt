-- What a load starts from in each edition, what each of its elements holds after it, and the records that it becomes.
use Rattle.std.specs.Prelude.{ℕ, ◌*◌, ◌<◌, ◌≤◌, ◌≡◌, true, List, ◌∷◌, length}
use Rattle.std.proofs.Math.Path.{refl}
use Rattle.std.proofs.Common.{◌∙◌, arith, leb-true, leb-false, le-leb}
use Rattle.std.proofs.lemmas.Bool.{lt-leb, not-true}
use Rattle.numbers.specs.Choice.{pick}
use Rattle.numbers.specs.Laws.Choice.{both_left, both_right}
use Rattle.sheet.specs.Sizes.{register_count}
use Rattle.sheet.specs.Codes.{none, object_of}
use Rattle.sheet.specs.Editions.{zeros_edition, object_is_zeros, no_object}
use Rattle.sheet.specs.declared.Object.{Object}
use Rattle.sheet.specs.declared.Object.TheVariants.{Kept, Zeros, Register}
use Rattle.sheet.specs.declared.Window.{Window}
use Rattle.sheet.specs.declared.Tensors.{Tensors}
use Rattle.sheet.specs.declared.Sheet.{Sheet}
use Rattle.sheet.specs.declared.Step.TheVariants.{Load}
use Rattle.sheet_ranges.specs.Steps.{the_step, object_ok, load_ok, step_ok}
use Rattle.sheet_ranges.specs.Laws.Within.{Within}
use Rattle.registers.specs.Types.{the_type}
use Rattle.registers.specs.Registers.{place_of, element_of}
use Rattle.registers.specs.Laws.Sized.{sized_places}
use Rattle.registers.specs.declared.MatrixType.{MatrixType}
use Rattle.addressing.specs.Rules.{elements_of}
use Rattle.transfers.specs.Transfers.{outcome_of}
use Rattle.checking.specs.Steps.{access_of, object_register}
use Rattle.checking.specs.Checking.{checked}
use Rattle.checking.specs.Laws.Names.{load_register}
use Rattle.checking.specs.Laws.Turns.{within_step}
use Rattle.carrying.specs.Steps.{Machine, state_of, object_done, load_done, performed_step}
use Rattle.carrying.specs.Carrying.{performed_from, started}
use Rattle.carrying.specs.Machines.{Formed}
use Rattle.carrying.specs.Laws.Types.{object_type, object_places}
use Rattle.records.specs.declared.Record.{Record}
use Rattle.records.specs.declared.Record.TheVariants.{Copy, Fill}
use Rattle.access_tapes.specs.Accesses.{access_records}
use Rattle.translating.specs.Tapes.{step_records}
use Rattle.objects.specs.Objects.{start_of, loaded_bits, load_on}
use Rattle.objects.specs.Laws.{elements_loaded, object_element, before_formed}

-- ---- what 255 means in an edition

-- before edition 3 a load without an object starts from its register as it stands
pub none_before : (edition : ℕ) → edition < zeros_edition → object_of (no_object edition) none ≡ Kept
unfolding object_of no_object pick
none_before edition h = rw (lt-leb zeros_edition edition h)

-- from edition 3 on it starts from zeros
pub none_from : (edition : ℕ) → zeros_edition ≤ edition → object_of (no_object edition) none ≡ Zeros
unfolding object_of no_object pick
none_from edition h = rw (le-leb zeros_edition edition h)

-- a sheet within Sizes has loads of the one sort before edition 3 and of the other from it on
module _ (sh : Sheet) (w : Within sh) (k : ℕ) (l : k < sh.steps) (register : ℕ) (window : Window) where
  object_ok_lem : (object : Object) → the_step sh.step k ≡ Load register object window → object_ok sh.edition object ≡ true
  unfolding load_ok
  object_ok_lem object e = both_left _ _ (both_right _ _ (rw e at (within_step sh w k l)))

  pub kept_before : the_step sh.step k ≡ Load register Kept window → sh.edition < zeros_edition
  kept_before e = leb-false zeros_edition sh.edition (not-true (object_is_zeros sh.edition) (object_ok_lem Kept e))

  pub zeros_from : the_step sh.step k ≡ Load register Zeros window → zeros_edition ≤ sh.edition
  zeros_from e = leb-true zeros_edition sh.edition (object_ok_lem Zeros e)

-- ---- what a load leaves in each element

-- Each element of a load holds what its outcome says, and where it is skipped what the load started from.
pub load_element : (tensors : Tensors) (register : ℕ) (object : Object) (window : Window) (m : Machine) (edition layouts views : ℕ)
    → step_ok edition layouts views (Load register object window) ≡ true → Formed m → (e : ℕ)
    → let a = load_on tensors register object window m in
    e < elements_of a
    → element_of (performed_step tensors (Load register object window) m).registers.elements register e
    ≡ loaded_bits a.size m.memory (start_of register object m.registers.elements e) (outcome_of a e)
unfolding performed_step load_done
load_element tensors register object window m edition layouts views ok f e l =
    let a = load_on tensors register object window m in
    let given = object_done register object m in
    let t = the_type m.registers.types (object_register register object) in
    let few : register < register_count = load_register _ _ _ _ _ _ ok in
    let so : the_type given.registers.types register ≡ t = object_type register object m (rw f.registers few) in
    let at : place_of register e < length given.registers.elements =
    omega (arith, object_places register object m, f.places, sized_places t (f.sized.each (object_register register object)))
    in
    rw so (elements_loaded a.size register (outcome_of a) (state_of given) (elements_of a) e l at ∙ rw (object_element register m f few object e l))

-- The same of step k of an accepted sheet, on the machine that the steps before it leave.
module _ (sh : Sheet) (w : Within sh) (memory : List ℕ) (ok : (checked sh (length memory)).refusal.number ≡ 0) (k : ℕ) (l : k < sh.steps) where
  abbrev before : Machine
  before = performed_from k sh 0 (started memory)

  pub sheet_load_element : (register : ℕ) (object : Object) (window : Window) → the_step sh.step k ≡ Load register object window → (e : ℕ)
      → let a = load_on sh.tensors register object window before in
      e < elements_of a
      → element_of (performed_step sh.tensors (the_step sh.step k) before).registers.elements register e
      ≡ loaded_bits a.size before.memory (start_of register object before.registers.elements e) (outcome_of a e)
  sheet_load_element register object window is e h =
      rw is (load_element sh.tensors register object window before sh.edition sh.tensors.layouts sh.tensors.views (rw is at (within_step sh w k l)) (before_formed sh w memory ok k l) e h)

-- ---- the records of a load

module _ (tensors : Tensors) (ts : List MatrixType) (len k register : ℕ) (window : Window) where
  abbrev runs_of : MatrixType → List Record
  runs_of t = access_records (access_of tensors true window t len) register

  -- zeros are a fill of 0 over the whole matrix, before the runs and apart from them, whatever the runs are
  pub zeros_records : let t = the_type ts register in step_records tensors ts len k (Load register Zeros window) ≡ Fill register 0 (t.rows * t.columns) 0 ∷ runs_of t
  unfolding step_records
  zeros_records = refl

  -- a register that stands as it is has no record of its own
  pub kept_records : step_records tensors ts len k (Load register Kept window) ≡ runs_of (the_type ts register)
  unfolding step_records
  kept_records = refl

  -- a register is copied, its own too
  pub copy_records : (object : ℕ) → step_records tensors ts len k (Load register (Register object) window) ≡ Copy register object ∷ runs_of (the_type ts object)
  unfolding step_records
  copy_records object = refl

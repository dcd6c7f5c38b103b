-- The loads and stores of a sheet that is within Sizes, and what their check tells.
use Rattle.std.specs.Prelude.{ℕ, ◌*◌, ◌<◌, ◌≤◌, ◌≡◌, Bool, true, false, List}
use Rattle.std.proofs.Common.{sym, ap, subst, ◌∙◌, true≢false, ⊎_elim, zero-mul, arith, ltb-true, ne_eqb}
use Rattle.std.proofs.lemmas.Bool.{eqb-false}
use Rattle.numbers.specs.Choice.{pick}
use Rattle.numbers.specs.Laws.Choice.{pick_case}
use Rattle.kinds.specs.Widths.{bytes_of}
use Rattle.kinds.specs.Laws.Widths.{bytes_size, bytes_low, bytes_high}
use Rattle.refusals.specs.Refusals.{empty_register}
use Rattle.sheet.specs.Sizes.{memory_limit}
use Rattle.sheet_ranges.specs.Steps.{viewing_ok, window_ok, step_ok}
use Rattle.tensor_ranges.specs.Views.{view_ok}
use Rattle.sheet_ranges.specs.Laws.Within.{TensorsWithin}
use Rattle.sheet.specs.declared.Viewing.{Viewing}
use Rattle.sheet.specs.declared.Viewing.TheVariants.{Plain, Through}
use Rattle.sheet.specs.declared.Window.{Window}
use Rattle.sheet.specs.declared.Object.{Object}
use Rattle.sheet.specs.declared.Step.{Step}
use Rattle.sheet.specs.declared.Step.TheVariants.{Nothing, Load, Store, Whole}
use Rattle.sheet.specs.declared.WholeStep.{WholeStep}
use Rattle.sheet.specs.declared.Tensors.{Tensors}
use Rattle.registers.specs.Types.{the_type, is_empty, with_type}
use Rattle.registers.specs.Sized.{SizedType, Sized}
use Rattle.registers.specs.Laws.Sized.{sized_places}
use Rattle.registers.specs.declared.MatrixType.{MatrixType}
use Rattle.addressing.specs.Rules.{elements_of}
use Rattle.addressing.specs.Valid.{SizedAccess}
use Rattle.addressing.specs.declared.Access.{Access}
use Rattle.accesses.specs.Refusals.{checked_elements, checked_access}
use Rattle.accesses.specs.Entries.{Told}
use Rattle.checking.specs.Steps.{is_viewed, view_named, access_of, object_register, step_check, moved_check, access_check, checked_step}
use Rattle.checking.specs.Turns.{step_access, Turned}
use Rattle.checking.specs.Clear.{Clear}
use Rattle.checking.specs.Laws.Names.{window_layout, window_view, load_window, store_window}
use Rattle.checking.specs.declared.StepCheck.{StepCheck}

-- the bytes of an element are 1, 2 or 4
bytes_not_three : (kind : ℕ) → bytes_of kind ≡ 3 → ⊥
bytes_not_three kind e =
    ⊎_elim (λ p. omega arith) (λ q. ⊎_elim (λ p. omega arith) (λ p. omega arith) q) (bytes_size kind)

-- the view that a window goes through is given
view_named_lem : (tensors : Tensors) → TensorsWithin tensors → (v : Viewing) → viewing_ok tensors.views v ≡ true → is_viewed v ≡ true → view_ok (view_named tensors v) ≡ true
view_named_lem tensors w Plain ok e = absurd (true≢false (sym e))
view_named_lem tensors w (Through view) ok e = w.view.given view (ltb-true view tensors.views ok)

-- an access to a matrix through a window that is within Sizes keeps to them
pub access_sized : (tensors : Tensors) → TensorsWithin tensors → (load : Bool) (window : Window) → window_ok tensors.layouts tensors.views window ≡ true
    → (t : MatrixType) → SizedType t → is_empty t ≡ false → (len : ℕ) → len ≤ memory_limit → SizedAccess (access_of tensors load window t len)
access_sized tensors w load window ok t s e len m =
    let n : t.rows ≡ 0 → ⊥ = eqb-false t.rows 0 e in
    record {
      layout = w.layout.given window.layout (window_layout _ _ window ok);
      view = view_named_lem tensors w window.view (window_view _ _ window ok);
      some = bytes_low t.kind;
      most = bytes_high t.kind;
      odd = bytes_not_three t.kind;
      memory = m;
      wide = s.some (omega arith);
      area = sized_places t s;
    }

-- the access of a step within Sizes keeps to them where it has elements
step_sized : (edition : ℕ) (tensors : Tensors) → TensorsWithin tensors → (ts : List MatrixType) → Sized ts → (len : ℕ) → len ≤ memory_limit → (step : Step)
    → step_ok edition tensors.layouts tensors.views step ≡ true → 0 < (step_access tensors ts len step).rows → SizedAccess (step_access tensors ts len step)
step_sized edition tensors w ts z len m Nothing ok h = absurd (omega arith)
step_sized edition tensors w ts z len m (Load register object window) ok h =
    let t = the_type ts (object_register register object) in
    access_sized tensors w true window (load_window _ _ _ _ _ _ ok) t (z.each (object_register register object)) (ne_eqb t.rows 0 (λ e. omega (arith, h, e))) len m
step_sized edition tensors w ts z len m (Store register window) ok h =
    let t = the_type ts register in
    access_sized tensors w false window (store_window _ _ _ _ ok) t (z.each register) (ne_eqb t.rows 0 (λ e. omega (arith, h, e))) len m
step_sized edition tensors w ts z len m (Whole whole) ok h = absurd (omega arith)

pub turned_sized : {edition : ℕ} {tensors : Tensors} {ts : List MatrixType} {len : ℕ} {step : Step} {a : Access} → Turned edition tensors ts len step a → 0 < a.rows → SizedAccess a
turned_sized {edition} {tensors} {ts} {len} {step} {a} t h =
    subst SizedAccess (sym t.access)
    (step_sized edition tensors t.within ts t.sized len t.memory step t.ok (subst (λ (x : Access). 0 < x.rows) t.access h))

-- without rows there is no element to tell of
pub told_none : (a : Access) (entries : List ℕ) → a.rows ≡ 0 → Told a entries
told_none a entries e i h =
    let z : elements_of a ≡ 0 = ap (λ (r : ℕ). r * a.columns) e ∙ zero-mul a.columns in
    absurd (omega (arith, h, z))

-- a step that is no load and no store has none
module _ (tensors : Tensors) (ts : List MatrixType) (len : ℕ) {step : Step} {a : Access} (e : a ≡ step_access tensors ts len step) where
  pub nothing_bare : step ≡ Nothing → a.rows ≡ 0
  nothing_bare g = ap (λ (x : Access). x.rows) (e ∙ ap (step_access tensors ts len) g)

  pub whole_bare : {whole : WholeStep} → step ≡ Whole whole → a.rows ≡ 0
  whole_bare g = ap (λ (x : Access). x.rows) (e ∙ ap (step_access tensors ts len) g)

-- what the check of a load or of a store is made of
module _ (edition : ℕ) (tensors : Tensors) (ts : List MatrixType) (len register : ℕ) (window : Window) {a : Access} {r : StepCheck} where
  pub load_check_lem : (object : Object) {after : List MatrixType} → a ≡ step_access tensors ts len (Load register object window)
      → after ≡ with_type ts register (the_type ts (object_register register object)) → ((t : MatrixType) → a.rows ≡ t.rows → r ≡ access_check ts after t a)
      → r ≡ checked_step edition tensors ts len (Load register object window)
  unfolding checked_step
  load_check_lem object e f g = g (the_type ts (object_register register object)) (ap (λ (x : Access). x.rows) e) ∙ rw (e, f)

  pub store_check_lem : a ≡ step_access tensors ts len (Store register window) → ((t : MatrixType) → a.rows ≡ t.rows → r ≡ access_check ts ts t a)
      → r ≡ checked_step edition tensors ts len (Store register window)
  unfolding checked_step
  store_check_lem e g = g (the_type ts register) (ap (λ (x : Access). x.rows) e) ∙ rw e

module _ (before after : List MatrixType) (t : MatrixType) (a : Access) where
  -- a load or a store that is not refused is of a register that is not empty
  not_empty : (access_check before after t a).stop.number ≡ 0 → is_empty t ≡ false
  unfolding access_check
  not_empty =
      pick_case (λ (r : StepCheck). r.stop.number ≡ 0 → is_empty t ≡ false) (is_empty t) (step_check empty_register before 0) _
      (λ e h. absurd (omega arith)) (λ e h. e)

  -- and its check is that of its access
  pub access_moved : is_empty t ≡ false → access_check before after t a ≡ moved_check after (checked_access a)
  unfolding access_check pick
  access_moved e = rw e

  pub access_clear : (access_check before after t a).stop.number ≡ 0 → Clear t a
  unfolding checked_elements
  access_clear h = let e = not_empty h in record { filled = e; clear = rw (access_moved e) at h }

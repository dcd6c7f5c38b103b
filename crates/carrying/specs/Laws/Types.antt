-- Types: performing a step leaves the types that the check tracks, and keeps memory's length and the registers' places.
use Rattle.std.specs.Prelude.{◌≡◌, true, false, List, length}
use Rattle.std.proofs.Math.Path.{refl, sym}
use Rattle.std.proofs.Common.{ap, subst, ◌∙◌, zero-add, add-zero, le_refl, not-suc-le-zero, arith, get_or-set_same}
use Prim.Native.Nat.{ℕ, zero, suc, ◌+◌, ◌*◌, ◌<◌, ◌≤◌}
use Rattle.std.proofs.lemmas.List.{length-replicate, set-get_or}
use Rattle.numbers.specs.Laws.Lists.{length_line}
use Rattle.sheet_ranges.specs.Steps.{the_step, step_ok}
use Rattle.sheet.specs.Sizes.{register_count, matrix_places, element_places}
use Rattle.sheet.specs.declared.Object.{Object}
use Rattle.sheet.specs.declared.Object.TheVariants.{Kept, Zeros, Register}
use Rattle.sheet.specs.declared.Tensors.{Tensors}
use Rattle.sheet.specs.declared.Sheet.{Sheet}
use Rattle.sheet.specs.declared.Step.{Step}
use Rattle.sheet.specs.declared.Step.TheVariants.{Nothing, Load, Store, Whole}
use Rattle.sheet.specs.declared.WholeStep.{WholeStep}
use Rattle.sheet_ranges.specs.Laws.Within.{Within}
use Rattle.registers.specs.Types.{no_type, the_type, with_type}
use Rattle.registers.specs.Registers.{place_of, element_of, empty_registers}
use Rattle.registers.specs.declared.Registers.{Registers}
use Rattle.registers.specs.Past.{Past}
use Rattle.registers.specs.Laws.Sized.{sized_with, sized_empty}
use Rattle.registers.specs.Laws.Past.{past_empty, past_zeroed, past_copied, past_made}
use Rattle.whole_steps.specs.Whole.{whole_result, whole_type}
use Rattle.whole_steps.specs.Within.{WholeOk}
use Rattle.whole_steps.proofs.Laws.Within.{whole_ok_lem, sized_type}
use Rattle.transfers.specs.Acts.{State}
use Rattle.transfers.proofs.Laws.Elements.{loaded_memory, stored_elements_lem, stored_length}
use Rattle.transfers.proofs.Laws.Effects.{transferred_keeps, loaded_places}
use Rattle.transfers.proofs.Laws.Fits.{load_past}
use Rattle.checking.specs.Steps.{object_register, step_types, access_of}
use Rattle.checking.specs.Laws.Names.{load_object}
use Rattle.checking.specs.Checking.{checked_from, checked}
use Rattle.checking.specs.declared.CheckAnswer.{CheckAnswer}
use Rattle.checking.specs.Laws.Steps.{check_types, check_sized, check_registers}
use Rattle.checking.specs.Laws.Turns.{types_from, first_clear, rest_clear, within_step}
use Rattle.carrying.specs.Steps.{Machine, state_of, with_object, object_done, load_done, store_done, whole_step_done, performed_step}
use Rattle.carrying.specs.Carrying.{performed_from, performed, started}
use Rattle.carrying.specs.Machines.{check_on, Accepted, step_on, AcceptedStep, Formed}

-- a load first gives its register the object: the types have the object's, and the places are as many
module _ (register : ℕ) where
  with_types : (object : Object) (g : Registers) → (with_object register object g).types ≡ with_type g.types register (the_type g.types (object_register register object))
  unfolding with_object
  with_types Kept g = sym (set-get_or g.types register no_type)
  with_types Zeros g = sym (set-get_or g.types register no_type)
  with_types (Register object) g = refl

  with_places : (object : Object) (g : Registers) → length (with_object register object g).elements ≡ length g.elements
  unfolding with_object
  with_places Kept g = refl
  with_places Zeros g =
      let t = the_type g.types register in
      length_line g.elements (place_of register 0) (λ (e : ℕ). 0) (t.rows * t.columns)
  with_places (Register object) g = length_line g.elements (place_of register 0) (element_of g.elements object) matrix_places

module _ (register : ℕ) (object : Object) (m : Machine) where
  pub object_types : (object_done register object m).registers.types ≡ with_type m.registers.types register (the_type m.registers.types (object_register register object))
  object_types = with_types register object m.registers

  pub object_places : length (object_done register object m).registers.elements ≡ length m.registers.elements
  object_places = with_places register object m.registers

  -- the register's type is then the object's
  pub object_type : register < length m.registers.types → the_type (object_done register object m).registers.types register ≡ the_type m.registers.types (object_register register object)
  object_type h = rw object_types (get_or-set_same m.registers.types register (the_type m.registers.types (object_register register object)) no_type h)

-- What a step leaves has the types that it leaves.
done_types : (tensors : Tensors) (step : Step) (m : Machine) → (performed_step tensors step m).registers.types ≡ step_types m.registers.types step
unfolding performed_step load_done store_done
done_types tensors Nothing m = refl
done_types tensors (Load register object window) m = object_types register object m
done_types tensors (Store register window) m = refl
done_types tensors (Whole whole) m = refl

-- Performing a step that is not refused leaves the types that its check tracks.
pub step_types_lem : (edition : ℕ) (tensors : Tensors) (step : Step) (m : Machine) → Accepted edition tensors step m
    → (performed_step tensors step m).registers.types ≡ (check_on edition tensors step m).types
step_types_lem edition tensors step m a =
    done_types tensors step m ∙ sym (check_types edition tensors m.registers.types (length m.memory) step a)

-- Performing a step keeps the length of memory.
pub step_length_lem : (tensors : Tensors) (step : Step) (m : Machine) → length (performed_step tensors step m).memory ≡ length m.memory
unfolding performed_step load_done store_done
step_length_lem tensors Nothing m = refl
step_length_lem tensors (Load register object window) m =
    ap length (transferred_keeps (λ (s : State). s.memory) _ (loaded_memory _ register) _ _ (state_of (object_done register object m)))
step_length_lem tensors (Store register window) m =
    transferred_keeps (λ (s : State). length s.memory) _ (stored_length _ register) _ _ (state_of m)
step_length_lem tensors (Whole whole) m = refl

-- Performing a step keeps the number of the registers' places.
pub step_places_lem : (tensors : Tensors) (step : Step) (m : Machine) → length (performed_step tensors step m).registers.elements ≡ length m.registers.elements
unfolding performed_step load_done store_done
step_places_lem tensors Nothing m = refl
step_places_lem tensors (Load register object window) m =
    transferred_keeps (λ (s : State). length s.elements) _ (loaded_places _ register) _ _ (state_of (object_done register object m))
    ∙ object_places register object m
step_places_lem tensors (Store register window) m =
    ap length (transferred_keeps (λ (s : State). s.elements) _ (stored_elements_lem _ register) _ _ (state_of m))
step_places_lem tensors (Whole whole) m = length_line m.registers.elements (place_of (whole_result whole) 0) _ matrix_places

pub started_formed : (memory : List ℕ) → Formed (started memory)
unfolding empty_registers
started_formed memory =
    record { registers = length-replicate register_count no_type; sized = sized_empty; places = length-replicate {A = ℕ} element_places 0; past = past_empty }

-- A load's object, and a step, leave 0 past each matrix.
object_past : (register : ℕ) (object : Object) (m : Machine) → object_register register object < register_count → Formed m
    → Past (object_done register object m).registers.types (object_done register object m).registers.elements
unfolding with_object
object_past register Kept m l f = f.past
object_past register Zeros m l f = past_zeroed m.registers register f.sized f.past
object_past register (Register object) m l f = past_copied m.registers.types m.registers.elements f.registers f.places f.past register object l

pub whole_past : (whole : WholeStep) (m : Machine) → WholeOk whole → Formed m → Past (whole_step_done whole m).registers.types (whole_step_done whole m).registers.elements
whole_past whole m ok f =
    past_made m.registers.types m.registers.elements f.registers f.places f.past (whole_result whole) (whole_type m.registers.types whole) _
    (sized_type m.registers.types whole f.sized ok.parts)

step_past : (tensors : Tensors) (step : Step) (m : Machine) (edition layouts views : ℕ) → step_ok edition layouts views step ≡ true → Formed m
    → Past (performed_step tensors step m).registers.types (performed_step tensors step m).registers.elements
unfolding performed_step load_done store_done
step_past tensors Nothing m edition layouts views ok f = f.past
step_past tensors (Load register object window) m edition layouts views ok f =
    let given = object_done register object m in
    let t = the_type given.registers.types register in
    load_past given.registers.types
    (rw (object_types register object m) (sized_with _ register _ f.sized (f.sized.each (object_register register object))))
    (access_of tensors true window t (length m.memory)) register (le_refl _) (state_of given)
    (object_past register object m (load_object _ _ _ _ _ _ ok) f)
step_past tensors (Store register window) m edition layouts views ok f =
    let x = access_of tensors false window (the_type m.registers.types register) (length m.memory) in
    subst (Past m.registers.types) (sym (transferred_keeps (λ (s : State). s.elements) _ (stored_elements_lem x.size register) _ _ (state_of m))) f.past
step_past tensors (Whole whole) m edition layouts views ok f = whole_past whole m (whole_ok_lem edition whole ok) f

pub step_formed : (edition : ℕ) (tensors : Tensors) (step : Step) (m : Machine) (edition' layouts views : ℕ)
    → step_ok edition' layouts views step ≡ true → Accepted edition tensors step m → Formed m → Formed (performed_step tensors step m)
step_formed edition tensors step m edition' layouts views ok a f =
    let types = step_types_lem edition tensors step m a in
    record {
      registers = ap length types ∙ check_registers edition tensors m.registers.types (length m.memory) step ∙ f.registers;
      sized = rw types (check_sized edition tensors m.registers.types (length m.memory) step edition' layouts views ok f.sized);
      places = step_places_lem tensors step m ∙ f.places;
      past = step_past tensors step m edition' layouts views ok f;
    }

-- the check of n steps more, the next of which is number k, on a machine, from a count
abbrev pub check_from : ℕ → Sheet → ℕ → Machine → ℕ → CheckAnswer
check_from n sh k m count = checked_from n sh (length m.memory) k m.registers.types count

pub first_accepted : (n : ℕ) (sh : Sheet) (k : ℕ) (m : Machine) (count : ℕ) → (check_from (suc n) sh k m count).refusal.number ≡ 0 → AcceptedStep sh k m
first_accepted n sh k m count = first_clear n sh (length m.memory) k m.registers.types count

-- the others are checked on the machine that the first leaves
pub rest_checked : (n : ℕ) (sh : Sheet) (k : ℕ) (m : Machine) (count : ℕ) → AcceptedStep sh k m
    → check_from (suc n) sh k m count
    ≡ check_from n sh (k + 1) (performed_step sh.tensors (the_step sh.step k) m) (count + (step_on sh k m).placed)
rest_checked n sh k m count a =
    let step = the_step sh.step k in
    rest_clear n sh (length m.memory) k m.registers.types count a ∙ rw (step_length_lem sh.tensors step m, step_types_lem sh.edition sh.tensors step m a)

-- so each of them is accepted, on the machine that those before it leave
pub from_accepted : (n : ℕ) (sh : Sheet) (k : ℕ) (m : Machine) (count : ℕ) → (check_from n sh k m count).refusal.number ≡ 0
    → (i : ℕ) → i < n → AcceptedStep sh (k + i) (performed_from i sh k m)
unfolding performed_from
from_accepted zero sh k m count h i l = absurd (not-suc-le-zero l)
from_accepted (suc n) sh k m count h zero l = rw (add-zero k) (first_accepted n sh k m count h)
from_accepted (suc n) sh k m count h (suc i) l =
    let step = the_step sh.step k in
    let e : k + suc i ≡ k + 1 + i = omega arith in
    rw e
    (from_accepted n sh (k + 1) (performed_step sh.tensors step m) (count + (step_on sh k m).placed)
    (rw (rest_checked n sh k m count (first_accepted n sh k m count h)) at h) i (omega arith))

-- Performing accepted steps leaves the types that the check tracks, and keeps the length of memory.
pub from_types : (n : ℕ) (sh : Sheet) (k : ℕ) (m : Machine) (count : ℕ) → (check_from n sh k m count).refusal.number ≡ 0
    → (performed_from n sh k m).registers.types ≡ types_from n sh (length m.memory) k m.registers.types
unfolding performed_from types_from
from_types zero sh k m count h = refl
from_types (suc n) sh k m count h =
    let step = the_step sh.step k in
    let a = first_accepted n sh k m count h in
    from_types n sh (k + 1) (performed_step sh.tensors step m) (count + (step_on sh k m).placed) (rw (rest_checked n sh k m count a) at h)
    ∙ rw (step_length_lem sh.tensors step m, step_types_lem sh.edition sh.tensors step m a)

pub from_length : (n : ℕ) (sh : Sheet) (k : ℕ) (m : Machine) → length (performed_from n sh k m).memory ≡ length m.memory
unfolding performed_from
from_length zero sh k m = refl
from_length (suc n) sh k m =
    let step = the_step sh.step k in from_length n sh (k + 1) (performed_step sh.tensors step m) ∙ step_length_lem sh.tensors step m

module _ (sh : Sheet) (w : Within sh) where
  -- steps within Sizes leave registers with types within Sizes
  pub from_formed : (n k : ℕ) (m : Machine) (count : ℕ) → k + n ≤ sh.steps → (check_from n sh k m count).refusal.number ≡ 0 → Formed m → Formed (performed_from n sh k m)
  unfolding performed_from
  from_formed zero k m count l h f = f
  from_formed (suc n) k m count l h f =
      let step = the_step sh.step k in
      let a = first_accepted n sh k m count h in
      from_formed n (k + 1) (performed_step sh.tensors step m) (count + (step_on sh k m).placed) (omega arith) (rw (rest_checked n sh k m count a) at h)
      (step_formed sh.edition sh.tensors step m sh.edition sh.tensors.layouts sh.tensors.views (within_step sh w k (omega arith)) a f)

-- Each step of an accepted sheet is accepted on the machine that those before it leave.
pub sheet_accepted : (sh : Sheet) (memory : List ℕ) → (checked sh (length memory)).refusal.number ≡ 0
    → (i : ℕ) → i < sh.steps → AcceptedStep sh i (performed_from i sh 0 (started memory))
unfolding checked
sheet_accepted sh memory h i l = rw (zero-add i) at (from_accepted sh.steps sh 0 (started memory) 0 h i l)

-- The types that an accepted sheet leaves are those that the check tracked.
pub sheet_types : (sh : Sheet) (memory : List ℕ) → (checked sh (length memory)).refusal.number ≡ 0
    → (performed sh (started memory)).registers.types ≡ types_from sh.steps sh (length memory) 0 empty_registers.types
unfolding checked performed
sheet_types sh memory h = from_types sh.steps sh 0 (started memory) 0 h

pub sheet_formed : (sh : Sheet) → Within sh → (memory : List ℕ) → (checked sh (length memory)).refusal.number ≡ 0 → Formed (performed sh (started memory))
unfolding checked performed
sheet_formed sh w memory h = from_formed sh w sh.steps 0 (started memory) 0 (omega arith) h (started_formed memory)

pub sheet_length : (sh : Sheet) (m : Machine) → length (performed sh m).memory ≡ length m.memory
unfolding performed
sheet_length sh m = from_length sh.steps sh 0 m

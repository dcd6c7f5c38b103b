-- The elements of a load, one after the other, and the machine that a step of an accepted sheet starts from.
use Prim.Native.Nat.{ℕ, zero, suc, ◌+◌, ◌*◌, ◌<◌, ◌≤◌}
use Rattle.std.specs.Prelude.{◌≡◌, List, ◌≢◌, length}
use Rattle.std.proofs.Math.Path.{refl}
use Rattle.std.proofs.Common.{◌∙◌, get_or-set_same, get_or-set_other}
use native.Mathlib.Omega.{arith}
use Rattle.numbers.specs.Laws.Choice.{by_place}
use Rattle.numbers.specs.Laws.Lines.{line_inside}
use Rattle.outcomes.specs.declared.Outcome.{Outcome}
use Rattle.outcomes.specs.declared.Outcome.TheVariants.{Skipped, Filled, Discarded, Placed}
use Rattle.sheet.specs.Sizes.{register_count}
use Rattle.sheet.specs.declared.Object.{Object}
use Rattle.sheet.specs.declared.Object.TheVariants.{Kept, Zeros, Register}
use Rattle.sheet.specs.declared.Sheet.{Sheet}
use Rattle.sheet_ranges.specs.Steps.{the_step}
use Rattle.sheet_ranges.specs.Laws.Within.{Within}
use Rattle.memory.specs.Elements.{element_at}
use Rattle.registers.specs.Types.{the_type}
use Rattle.registers.specs.Registers.{place_of, element_of}
use Rattle.registers.specs.Laws.Registers.{own_places}
use Rattle.registers.specs.Laws.Sized.{sized_places}
use Rattle.registers.specs.declared.MatrixType.{MatrixType}
use Rattle.transfers.specs.Acts.{State, loaded}
use Rattle.transfers.specs.Transfers.{transferred}
use Rattle.transfers.proofs.Laws.Elements.{loaded_memory}
use Rattle.transfers.proofs.Laws.Effects.{transferred_keeps, loaded_places}
use Rattle.checking.specs.Steps.{object_register}
use Rattle.checking.specs.Checking.{checked}
use Rattle.checking.specs.Laws.Turns.{within_step}
use Rattle.carrying.specs.Steps.{Machine, with_object, performed_step}
use Rattle.carrying.specs.Carrying.{performed_from, started}
use Rattle.carrying.specs.Machines.{step_on, Formed}
use Rattle.carrying.specs.Laws.Types.{started_formed, step_formed, check_from, first_accepted, rest_checked}
use Rattle.objects.specs.Objects.{start_of, loaded_bits}

-- one element of a load changes no other
module _ (size register : ℕ) where
  loaded_own : (e : ℕ) (o : Outcome) (s : State) → place_of register e < length s.elements
      → element_of (loaded size register e o s).elements register e ≡ loaded_bits size s.memory (element_of s.elements register e) o
  loaded_own e Skipped s h = refl
  loaded_own e (Filled bits) s h = get_or-set_same s.elements (place_of register e) bits 0 h
  loaded_own e Discarded s h = refl
  loaded_own e (Placed byte) s h = get_or-set_same s.elements (place_of register e) (element_at s.memory byte size) 0 h

  loaded_other : (k e : ℕ) → e ≢ k → (o : Outcome) (s : State) → element_of (loaded size register k o s).elements register e ≡ element_of s.elements register e
  loaded_other k e d Skipped s = refl
  loaded_other k e d (Filled bits) s = get_or-set_other s.elements (place_of register k) (place_of register e) bits 0 (λ p. d (omega arith))
  loaded_other k e d Discarded s = refl
  loaded_other k e d (Placed byte) s =
      get_or-set_other s.elements (place_of register k) (place_of register e) (element_at s.memory byte size) 0 (λ p. d (omega arith))

  module _ (outcome : ℕ → Outcome) (s : State) where
    abbrev after : ℕ → State
    after n = transferred (loaded size register) outcome n s

    not_yet : (n e : ℕ) → n ≤ e → element_of (after n).elements register e ≡ element_of s.elements register e
    unfolding transferred
    not_yet zero e h = refl
    not_yet (suc n) e h = loaded_other n e (λ p. omega arith) (outcome n) (after n) ∙ not_yet n e (omega arith)

    -- the turn of element n, on the places and the memory of before
    its_turn : (n : ℕ) → place_of register n < length s.elements
        → element_of (loaded size register n (outcome n) (after n)).elements register n ≡ loaded_bits size s.memory (element_of s.elements register n) (outcome n)
    its_turn n h =
        let places = transferred_keeps (λ (s : State). length s.elements) (loaded size register) (loaded_places size register) outcome n s in
        let memory = transferred_keeps (λ (s : State). s.memory) (loaded size register) (loaded_memory size register) outcome n s in
        let same : loaded_bits size (after n).memory (element_of (after n).elements register n) (outcome n) ≡ loaded_bits size s.memory (element_of s.elements register n) (outcome n) =
        rw (memory, not_yet n n (omega arith))
        in
        loaded_own n (outcome n) (after n) (omega (arith, places)) ∙ same

    pub elements_loaded : (n e : ℕ) → e < n → place_of register e < length s.elements
        → element_of (after n).elements register e ≡ loaded_bits size s.memory (element_of s.elements register e) (outcome e)
    unfolding transferred
    elements_loaded zero e l h = absurd (omega arith)
    elements_loaded (suc n) e l h =
        by_place e n (λ p. rw p (its_turn n (rw p at h))) (λ d. loaded_other n e d (outcome n) (after n) ∙ elements_loaded n e (omega arith) h)

-- the object that a load's register is given, element by element
module _ (register : ℕ) (m : Machine) (f : Formed m) (few : register < register_count) where
  abbrev type_of : Object → MatrixType
  type_of object = the_type m.registers.types (object_register register object)

  pub object_element : (object : Object) (e : ℕ) → e < (type_of object).rows * (type_of object).columns
      → element_of (with_object register object m.registers).elements register e ≡ start_of register object m.registers.elements e
  unfolding with_object
  object_element Kept e l = refl
  object_element Zeros e l =
      let t = type_of Zeros in
      let at : place_of register e ≡ place_of register 0 + e = omega arith in
      let room = sized_places t (f.sized.each register) in
      rw at (line_inside m.registers.elements (place_of register 0) (λ (i : ℕ). 0) (t.rows * t.columns) e 0 l (omega (arith, f.places, room)))
  object_element (Register object) e l =
      let es = m.registers.elements in
      own_places es register (element_of es object) e (omega (arith, f.places)) (omega (arith, sized_places (type_of (Register object)) (f.sized.each object)))

-- each step of an accepted sheet starts from registers within Sizes
module _ (sh : Sheet) (w : Within sh) where
  from_formed : (n k : ℕ) (m : Machine) (count : ℕ) → k + n ≤ sh.steps → (check_from n sh k m count).refusal.number ≡ 0 → Formed m
      → (i : ℕ) → i < n → Formed (performed_from i sh k m)
  unfolding performed_from
  from_formed zero k m count b h f i l = absurd (omega arith)
  from_formed (suc n) k m count b h f zero l = f
  from_formed (suc n) k m count b h f (suc i) l =
      let step = the_step sh.step k in
      let a = first_accepted n sh k m count h in
      from_formed n (k + 1) (performed_step sh.tensors step m) (count + (step_on sh k m).placed) (omega arith) (rw (rest_checked n sh k m count a) at h)
      (step_formed sh.edition sh.tensors step m sh.edition sh.tensors.layouts sh.tensors.views (within_step sh w k (omega arith)) a f)
      i (omega arith)

  pub before_formed : (memory : List ℕ) → (checked sh (length memory)).refusal.number ≡ 0 → (k : ℕ) → k < sh.steps → Formed (performed_from k sh 0 (started memory))
  unfolding checked
  before_formed memory h k l = from_formed sh.steps 0 (started memory) 0 (omega arith) h (started_formed memory) k l

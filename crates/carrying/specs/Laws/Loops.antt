-- What the loop over a sheet's steps keeps.
use Rattle.std.specs.Prelude.{ℕ, suc, ◌+◌, ◌-◌, ◌*◌, ◌<◌, ◌≤◌, ◌≡◌, refl, List, length}
use Rattle.std.proofs.Common.{◌∙◌, arith}
use Rattle.sheet_ranges.specs.Steps.{the_step}
use Rattle.sheet.specs.Sizes.{matrix_places}
use Rattle.sheet.specs.declared.Object.{Object}
use Rattle.sheet.specs.declared.Sheet.{Sheet}
use Rattle.sheet_ranges.specs.Laws.Within.{Within}
use Rattle.registers.specs.Sized.{Sized}
use Rattle.registers.specs.Laws.Sized.{sized_with}
use Rattle.checking.specs.Steps.{object_register}
use Rattle.checking.specs.Checking.{checked}
use Rattle.checking.specs.Laws.Turns.{within_step, one_less}
use Rattle.checking.specs.Laws.Steps.{step_placed}
use Rattle.carrying.specs.Steps.{Machine, with_object, performed_step}
use Rattle.carrying.specs.Carrying.{performed_from, performed, started}
use Rattle.carrying.specs.Machines.{step_on, AcceptedStep, Formed}
use Rattle.carrying.specs.Laws.Types.{started_formed, step_formed, step_length_lem, check_from, first_accepted, rest_checked, object_types}
use Rattle.carrying.specs.Laws.Counts.{step_count}

-- a machine before step k of n more: well formed, few elements counted, the rest accepted, and the rest leaves what the whole sheet leaves
pub record Ready (n : ℕ) (sh : Sheet) (k : ℕ) (m start : Machine) : Type 0 where
  pub formed : Formed m
  pub few : m.counts.placed ≤ k * matrix_places
  pub kept : length m.memory ≡ length start.memory
  pub counted : ℕ
  pub clear : (check_from n sh k m counted).refusal.number ≡ 0
  pub rest : performed_from n sh k m ≡ performed sh start

pub ready_start : (sh : Sheet) (memory : List ℕ) → (checked sh (length memory)).refusal.number ≡ 0 → Ready sh.steps sh 0 (started memory) (started memory)
unfolding checked performed
ready_start sh memory h =
    record { formed = started_formed memory; few = omega arith; kept = refl; counted = 0; clear = h; rest = refl }

module _ (n : ℕ) (sh : Sheet) (k : ℕ) (m start : Machine) (r : Ready (suc n) sh k m start) where
  pub ready_accepted : AcceptedStep sh k m
  ready_accepted = first_accepted n sh k m r.counted r.clear

  pub ready_next : Within sh → k < sh.steps → Ready n sh (k + 1) (performed_step sh.tensors (the_step sh.step k) m) start
  unfolding performed_from
  ready_next w l =
      let step = the_step sh.step k in
      let ok = within_step sh w k l in
      let count = step_count sh.edition sh.tensors step m sh.edition sh.tensors.layouts sh.tensors.views ok ready_accepted r.formed in
      let few = step_placed sh.edition sh.tensors m.registers.types (length m.memory) step r.formed.sized in
      record {
        formed = step_formed sh.edition sh.tensors step m sh.edition sh.tensors.layouts sh.tensors.views ok ready_accepted r.formed;
        few = omega (arith, count, few, r.few);
        kept = step_length_lem sh.tensors step m ∙ r.kept;
        counted = r.counted + (step_on sh k m).placed;
        clear = rw (rest_checked n sh k m r.counted ready_accepted) at r.clear;
        rest = r.rest;
      }

-- no step is left
pub ready_end : (sh : Sheet) (k : ℕ) (m start : Machine) → Ready 0 sh k m start → m ≡ performed sh start
unfolding performed_from
ready_end sh k m start r = r.rest

-- the types that a load's object leaves keep to Sizes
pub given_sized : (m : Machine) (register : ℕ) → Formed m → (object : Object) → Sized (with_object register object m.registers).types
given_sized m register f object = rw (object_types register object m) (sized_with _ register _ f.sized (f.sized.each (object_register register object)))

-- the same with what is left counted from the whole
module _ (sh : Sheet) (k : ℕ) (m start : Machine) (l : k < sh.steps) (r : Ready (sh.steps - k) sh k m start) where
  one_more : Ready (suc (sh.steps - (k + 1))) sh k m start
  one_more = rw (one_less sh.steps k l) at r

  pub turn_accepted : AcceptedStep sh k m
  turn_accepted = ready_accepted (sh.steps - (k + 1)) sh k m start one_more

  pub turn_next : Within sh → {m' : Machine} → m' ≡ performed_step sh.tensors (the_step sh.step k) m → Ready (sh.steps - (k + 1)) sh (k + 1) m' start
  turn_next w e = rw e (ready_next (sh.steps - (k + 1)) sh k m start one_more w l)

pub turns_end : (sh : Sheet) (k : ℕ) (m start : Machine) → sh.steps ≤ k → Ready (sh.steps - k) sh k m start → m ≡ performed sh start
turns_end sh k m start h r = let e : sh.steps - k ≡ 0 = omega arith in ready_end sh k m start (rw e at r)

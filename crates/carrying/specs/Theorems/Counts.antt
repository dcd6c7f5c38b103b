-- Counts: as many elements of loads and stores have a byte as the check counted.
use Rattle.std.specs.Prelude.{◌≡◌, List, length}
use Rattle.std.proofs.Math.Path.{refl, ap}
use Rattle.std.proofs.Common.{sym, ◌∙◌, arith}
use Prim.Native.Nat.{ℕ, zero, suc, ◌+◌, ◌≤◌}
use Rattle.sheet_ranges.specs.Steps.{the_step}
use Rattle.sheet.specs.declared.Sheet.{Sheet}
use Rattle.sheet_ranges.specs.Laws.Within.{Within}
use Rattle.checking.specs.Checking.{checked_from, checked}
use Rattle.checking.specs.Laws.Turns.{within_step}
use Rattle.checking.specs.declared.CheckAnswer.{CheckAnswer}
use Rattle.carrying.specs.Steps.{Machine, performed_step}
use Rattle.carrying.specs.Carrying.{performed_from, performed, started}
use Rattle.carrying.specs.Machines.{step_on, Formed}
use Rattle.carrying.specs.Laws.Types.{started_formed, step_formed, check_from, first_accepted, rest_checked}
use Rattle.carrying.specs.Laws.Counts.{step_count}

module _ (sh : Sheet) (w : Within sh) where
  from_count : (n k : ℕ) (m : Machine) → k + n ≤ sh.steps → (check_from n sh k m m.counts.placed).refusal.number ≡ 0 → Formed m → (performed_from n sh k m).counts.placed ≡ (check_from n sh k m m.counts.placed).count
  unfolding performed_from checked_from
  from_count zero k m l h f = refl
  from_count (suc n) k m l h f =
      let step = the_step sh.step k in
      let ok = within_step sh w k (omega arith) in
      let a = first_accepted n sh k m m.counts.placed h in
      let next = performed_step sh.tensors step m in
      let c : next.counts.placed ≡ m.counts.placed + (step_on sh k m).placed = step_count sh.edition sh.tensors step m sh.edition sh.tensors.layouts sh.tensors.views ok a f in
      let e : check_from (suc n) sh k m m.counts.placed ≡ check_from n sh (k + 1) next next.counts.placed =
      rest_checked n sh k m m.counts.placed a ∙ rw c in
      from_count n (k + 1) next (omega arith) (rw e at h) (step_formed sh.edition sh.tensors step m sh.edition sh.tensors.layouts sh.tensors.views ok a f)
      ∙ ap (λ (r : CheckAnswer). r.count) (sym e)

  -- For an accepted sheet, the number of elements of loads and stores that had a byte is what the check counted.
  pub sheet_count : (memory : List ℕ) → (checked sh (length memory)).refusal.number ≡ 0 → (performed sh (started memory)).counts.placed ≡ (checked sh (length memory)).count
  unfolding checked performed
  sheet_count memory h = from_count sh.steps 0 (started memory) (omega arith) h (started_formed memory)

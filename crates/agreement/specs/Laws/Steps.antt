-- The records of n steps more pass, and leave what the steps leave.
use Prim.Native.Nat.{ℕ, zero, suc, ◌+◌, ◌≤◌}
use Rattle.std.specs.Prelude.{◌≡◌, length}
use Rattle.std.proofs.Math.Path.{refl, ap, ap₂}
use Rattle.std.proofs.Common.{sym, ◌∙◌, arith}
use mathlib.Core.List.{List}
use Rattle.sheet_ranges.specs.Steps.{the_step}
use Rattle.sheet.specs.declared.Sheet.{Sheet}
use Rattle.sheet_ranges.specs.Laws.Within.{Within}
use Rattle.registers.specs.declared.MatrixType.{MatrixType}
use Rattle.checking.specs.Laws.Turns.{types_from, within_step}
use Rattle.accepted.specs.Passes.{pass_from}
use Rattle.carrying.specs.Steps.{Machine, performed_step}
use Rattle.carrying.specs.Carrying.{performed_from}
use Rattle.carrying.specs.Machines.{step_on, AcceptedStep, Formed}
use Rattle.carrying.specs.Laws.Types.{check_from, step_types_lem, step_length_lem, step_formed, first_accepted, rest_checked}
use Rattle.records.specs.declared.Record.{Record}
use Rattle.runs.proofs.Laws.States.{perform_all, perform_all_append}
use Rattle.translating.specs.Tapes.{step_records, tape_from}
use Rattle.running.specs.Records.{ran_record}
use Rattle.agreement.specs.Laws.Passing.{Passes, none, passes_append, ran_all}
use Rattle.agreement.specs.Laws.Stepping.{step_passes, step_done}

-- the records of n steps more, the next of which is number k, on the machine that the steps before left
abbrev pub records_from : ℕ → Sheet → ℕ → Machine → List Record
records_from n sh k m = tape_from n sh (length m.memory) k m.registers.types

-- they pass, and leave what the steps leave
pub record Agree (n : ℕ) (sh : Sheet) (k : ℕ) (m : Machine) : Type 0 where
  pub passes : Passes sh (length m.memory) (records_from n sh k m) m.registers.types (types_from n sh (length m.memory) k m.registers.types)
  pub same : ran_all sh (records_from n sh k m) m ≡ performed_from n sh k m

module _ (sh : Sheet) (w : Within sh) where
  pub from_agree : (n k : ℕ) (m : Machine) (count : ℕ) → k + n ≤ sh.steps → (check_from n sh k m count).refusal.number ≡ 0 → Formed m → Agree n sh k m
  unfolding pass_from types_from performed_from perform_all
  from_agree zero k m count l h f = record { passes = none; same = refl }
  from_agree (suc n) k m count l h f =
      let st = the_step sh.step k in
      let a : AcceptedStep sh k m = first_accepted n sh k m count h in
      let ok = within_step sh w k (omega arith) in
      let first = step_records sh.tensors m.registers.types (length m.memory) k st in
      let others = tape_from n sh (length m.memory) (k + 1) (step_on sh k m).types in
      let left = performed_step sh.tensors st m in
      let later : Agree n sh (k + 1) left =
      from_agree n (k + 1) left (count + (step_on sh k m).placed) (omega arith) (rw (rest_checked n sh k m count a) at h)
      (step_formed sh.edition sh.tensors st m sh.edition sh.tensors.layouts sh.tensors.views ok a f) in
      record {
        passes =
            passes_append sh (step_passes sh m k st (omega arith) refl a f.registers ok)
            (rw (step_length_lem sh.tensors st m, step_types_lem sh.edition sh.tensors st m a) at later.passes);
        same =
            perform_all_append (ran_record sh) first others m
            ∙ ap (ran_all sh others) (step_done sh m k st refl f.registers ok)
            ∙ ap₂ (λ (len : ℕ) (ts : List MatrixType). ran_all sh (tape_from n sh len (k + 1) ts) left) (sym (step_length_lem sh.tensors st m)) (sym (step_types_lem sh.edition sh.tensors st m a))
            ∙ later.same;
      }

-- The check of n steps more, the next of which is number k.
use Rattle.std.specs.Prelude.{ℕ, zero, suc, ◌+◌, ◌-◌, ◌<◌, ◌≤◌, ◌≡◌, true, List, [], ◌∷◌}
use Rattle.std.proofs.Math.Bool.{false}
use native.Mathlib.Omega.{arith}
use Rattle.std.proofs.Math.Dec.{eqb}
use borrow.Author.Tests.{eqb-true, eq-eqb, ne_eqb}
use Rattle.numbers.specs.Choice.{pick}
use Rattle.numbers.specs.Laws.Choice.{pick_case}
use Rattle.sheet_ranges.specs.Steps.{the_step, step_ok}
use Rattle.sheet.specs.declared.Sheet.{Sheet}
use Rattle.sheet_ranges.specs.Laws.Within.{Within}
use Rattle.registers.specs.Types.{no_type}
use Rattle.registers.specs.Registers.{empty_registers}
use Rattle.registers.specs.declared.MatrixType.{MatrixType}
use Rattle.checking.specs.Steps.{checked_step}
use Rattle.refusals.specs.Refusals.{refusal_at, not_refused}
use Rattle.checking.specs.Checking.{check_refused, checked_from, checked}
use Rattle.checking.specs.declared.StepCheck.{StepCheck}
use Rattle.checking.specs.declared.CheckAnswer.{CheckAnswer}

-- of n turns the one after k, and the others
pub one_less : (n k : ℕ) → k < n → n - k ≡ suc (n - (k + 1))
one_less n k h = omega arith

-- the check begins with registers that have no type
pub empty_types : (none : MatrixType) → none ≡ no_type → none ∷ none ∷ none ∷ none ∷ [] ≡ empty_registers.types
unfolding empty_registers
empty_types none e = rw e

-- the types that the check tracks through n steps more, the next of which is number k
unfoldable pub types_from : ℕ → Sheet → ℕ → ℕ → List MatrixType → List MatrixType
types_from zero sh len k ts = ts
types_from (suc n) sh len k ts = types_from n sh len (k + 1) (checked_step sh.edition sh.tensors ts len (the_step sh.step k)).types

-- where they are accepted, so is the first, and what the check says of them is what it says of the others
module _ (n : ℕ) (sh : Sheet) (len k : ℕ) (ts : List MatrixType) (count : ℕ) where
  abbrev first : StepCheck
  first = checked_step sh.edition sh.tensors ts len (the_step sh.step k)

  pub first_clear : (checked_from (suc n) sh len k ts count).refusal.number ≡ 0 → first.stop.number ≡ 0
  unfolding checked_from
  first_clear =
      pick_case (λ (r : CheckAnswer). r.refusal.number ≡ 0 → first.stop.number ≡ 0) (eqb first.stop.number 0) _ _
      (λ e h. eqb-true first.stop.number 0 e) (λ e h. h)

  pub rest_clear : first.stop.number ≡ 0 → checked_from (suc n) sh len k ts count ≡ checked_from n sh len (k + 1) first.types (count + first.placed)
  unfolding checked_from pick
  rest_clear e = rw (eq-eqb first.stop.number 0 e)

-- a step of a sheet within Sizes keeps to them
pub within_step : (sh : Sheet) → Within sh → (k : ℕ) → k < sh.steps → step_ok sh.edition sh.tensors.layouts sh.tensors.views (the_step sh.step k) ≡ true
within_step sh w k h = w.step.given k h

-- the turns of a loop over the steps
pub checked_start : (sh : Sheet) (len : ℕ) → checked_from (sh.steps - 0) sh len 0 empty_registers.types 0 ≡ checked sh len
unfolding checked
checked_start sh len = let e : sh.steps - 0 ≡ sh.steps = omega arith in rw e

-- a turn: the check of step k goes on or refuses; after the last step the count is the answer
module _ (n : ℕ) (sh : Sheet) (len k : ℕ) (ts : List MatrixType) (count : ℕ) where
  pub checked_end : n ≤ k → record { refusal = not_refused; count = count } ≡ checked_from (n - k) sh len k ts count
  unfolding checked_from
  checked_end h = let e : n - k ≡ 0 = omega arith in rw e

  module _ (c : StepCheck) (is : c ≡ checked_step sh.edition sh.tensors ts len (the_step sh.step k)) (h : k < n) where
    pub checked_go : c.stop.number ≡ 0 → checked_from (n - (k + 1)) sh len (k + 1) c.types (count + c.placed) ≡ checked_from (n - k) sh len k ts count
    unfolding checked_from pick
    checked_go e = rw (one_less n k h, ← is, eq-eqb c.stop.number 0 e)

    pub checked_stop : 0 < c.stop.number → check_refused (refusal_at c.stop.number k c.stop.element) ≡ checked_from (n - k) sh len k ts count
    unfolding checked_from pick
    checked_stop p =
        let e : eqb c.stop.number 0 ≡ false = ne_eqb c.stop.number 0 (λ z. omega arith) in rw (one_less n k h, ← is, e)

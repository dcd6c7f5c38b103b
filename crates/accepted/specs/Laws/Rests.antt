-- What a pass over the steps of an accepted sheet keeps, over types alone.
use Rattle.std.specs.Prelude.{ℕ, suc, ◌+◌, ◌-◌, ◌<◌, ◌≤◌, ◌≡◌}
use Rattle.std.proofs.Math.Path.{refl, ap}
use Rattle.std.proofs.Common.{sym, ◌∙◌}
use mathlib.Core.List.{List, [], ◌++◌}
use Rattle.std.proofs.Math.Nat.{sub-zero}
use Rattle.std.proofs.Math.Numerals.{add-one}
use native.Mathlib.Omega.{arith}
use Rattle.sheet.specs.Sizes.{memory_limit}
use Rattle.sheet_ranges.specs.Steps.{the_step}
use Rattle.sheet_ranges.specs.Laws.Within.{Within}
use Rattle.sheet.specs.declared.Sheet.{Sheet}
use Rattle.sheet.specs.declared.Step.{Step}
use Rattle.registers.specs.Registers.{empty_registers}
use Rattle.registers.specs.Sized.{Sized}
use Rattle.registers.specs.Laws.Sized.{sized_empty}
use Rattle.registers.specs.declared.MatrixType.{MatrixType}
use Rattle.checking.specs.Steps.{checked_step, step_types}
use Rattle.checking.specs.Checking.{checked_from, checked}
use Rattle.checking.specs.Laws.Steps.{check_types, check_sized}
use Rattle.checking.specs.Laws.Turns.{first_clear, rest_clear, one_less, within_step}
use Rattle.accepted.specs.Accepted.{ClearStep}
use Rattle.accepted.specs.Passes.{types_at, pass_from, pass, pass_rest}

module _ {A : Type 0} (f : List MatrixType → ℕ → Step → List A) (sh : Sheet) (len : ℕ) where
  pub pass_start : pass_rest f sh len 0 empty_registers.types ≡ pass f sh len
  pass_start = rw (sub-zero sh.steps) refl

  pub pass_end : (k : ℕ) (ts : List MatrixType) → sh.steps ≤ k → pass_rest f sh len k ts ≡ []
  unfolding pass_from
  pass_end k ts h = let e : sh.steps - k ≡ 0 = omega arith in rw e refl

-- what step k gives, and the others
pub pass_on : {A : Type 0} (f : List MatrixType → ℕ → Step → List A) (sh : Sheet) (len k : ℕ) (ts : List MatrixType) → k < sh.steps → {after : List MatrixType}
    → after ≡ (checked_step sh.edition sh.tensors ts len (the_step sh.step k)).types
    → pass_rest f sh len k ts ≡ f ts k (the_step sh.step k) ++ pass_rest f sh len (k + 1) after
unfolding pass_from
pass_on f sh len k ts h e = rw (one_less sh.steps k h, e) refl

-- types from which the check of the steps from number k on refuses none
pub record Rest (sh : Sheet) (len k : ℕ) (ts : List MatrixType) : Type 0 where
  pub sized : Sized ts
  pub counted : ℕ
  pub clear : (checked_from (sh.steps - k) sh len k ts counted).refusal.number ≡ 0

pub rest_start : (sh : Sheet) (len : ℕ) → (checked sh len).refusal.number ≡ 0 → Rest sh len 0 empty_registers.types
unfolding checked
rest_start sh len h = record { sized = sized_empty; counted = 0; clear = rw (sub-zero sh.steps) h }

module _ (sh : Sheet) (w : Within sh) (len : ℕ) (few : len ≤ memory_limit) (k : ℕ) (ts : List MatrixType) (h : k < sh.steps) (r : Rest sh len k ts) where
  abbrev left : ℕ
  left = sh.steps - (k + 1)

  abbrev step : Step
  step = the_step sh.step k

  clear : (checked_from (suc left) sh len k ts r.counted).refusal.number ≡ 0
  clear = rw (one_less sh.steps k h) at r.clear

  first : (checked_step sh.edition sh.tensors ts len step).stop.number ≡ 0
  first = first_clear left sh len k ts r.counted clear

  -- step k is accepted
  pub rest_step : ClearStep sh.tensors ts len (the_step sh.step k)
  rest_step =
      record { within = w.tensors; memory = few; sized = r.sized; edition = sh.edition; ok = within_step sh w k h; clear = first }

  module _ {after : List MatrixType} (so : after ≡ step_types ts (the_step sh.step k)) where
    types : after ≡ (checked_step sh.edition sh.tensors ts len step).types
    types = so ∙ sym (check_types sh.edition sh.tensors ts len step first)

    -- so are those after it, from the types that it leaves
    pub rest_next : Rest sh len (k + 1) after
    rest_next =
        rw types
        (record {
          sized = check_sized sh.edition sh.tensors ts len step sh.edition sh.tensors.layouts sh.tensors.views (within_step sh w k h) r.sized;
          counted = r.counted + (checked_step sh.edition sh.tensors ts len step).placed;
          clear = rw (rest_clear left sh len k ts r.counted first) at clear;
        })

    -- and those are the types at it
    pub types_go : ts ≡ types_at sh len k → after ≡ types_at sh len (k + 1)
    unfolding types_at
    types_go e = rw add-one (types ∙ ap (λ (x : List MatrixType). (checked_step sh.edition sh.tensors x len step).types) e)

    pub pass_go : {A : Type 0} (f : List MatrixType → ℕ → Step → List A) → pass_rest f sh len k ts ≡ f ts k (the_step sh.step k) ++ pass_rest f sh len (k + 1) after
    pass_go f = pass_on f sh len k ts h types

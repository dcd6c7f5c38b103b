-- A pass over the steps of a sheet: what each gives at the types that the steps before left, one after the other.
use Rattle.std.specs.Prelude.{ℕ, zero, suc, ◌+◌, ◌-◌, List, [], ◌++◌}
use Rattle.sheet_ranges.specs.Steps.{the_step}
use Rattle.sheet.specs.declared.Sheet.{Sheet}
use Rattle.sheet.specs.declared.Step.{Step}
use Rattle.registers.specs.Registers.{empty_registers}
use Rattle.registers.specs.declared.MatrixType.{MatrixType}
use Rattle.checking.specs.Steps.{checked_step}

-- the types that the first k steps leave, from empty registers
unfoldable pub types_at : Sheet → ℕ → ℕ → List MatrixType
types_at sh len zero = empty_registers.types
types_at sh len (suc k) = (checked_step sh.edition sh.tensors (types_at sh len k) len (the_step sh.step k)).types

-- n steps more, the next of which is number k
unfoldable pub pass_from : {A : Type 0} → (List MatrixType → ℕ → Step → List A) → ℕ → Sheet → ℕ → ℕ → List MatrixType → List A
pass_from f zero sh len k ts = []
pass_from f (suc n) sh len k ts =
    let step = the_step sh.step k in
    f ts k step ++ pass_from f n sh len (k + 1) (checked_step sh.edition sh.tensors ts len step).types

-- all of them, from empty registers
abbrev pub pass : {A : Type 0} → (List MatrixType → ℕ → Step → List A) → Sheet → ℕ → List A
pass f sh len = pass_from f sh.steps sh len 0 empty_registers.types

-- those from number k on
abbrev pub pass_rest : {A : Type 0} → (List MatrixType → ℕ → Step → List A) → Sheet → ℕ → ℕ → List MatrixType → List A
pass_rest f sh len k ts = pass_from f (sh.steps - k) sh len k ts

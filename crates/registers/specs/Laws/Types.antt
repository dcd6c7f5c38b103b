-- What is known past a test for an empty register.
use Rattle.std.specs.Prelude.{◌≡◌, false, List, ℕ, ◌<◌, length}
use Rattle.std.proofs.Common.{true≢false, ⊎_elim, arith}
use Rattle.std.proofs.lemmas.Bool.{eqb-false}
use Rattle.std.proofs.Math.ListN.{get_or-eq_default}
use Rattle.numbers.specs.Choice.{pick}
use Rattle.numbers.specs.Laws.Choice.{pick_inv, by_order}
use Rattle.registers.specs.Types.{no_type, the_type, is_empty}
use Rattle.registers.specs.declared.MatrixType.{MatrixType}

-- a choice that refuses an empty register, and came out as 0
pub past_empty : (t : MatrixType) (n x : ℕ) → 0 < n → pick (is_empty t) n x ≡ 0 → (0 < t.rows) × (x ≡ 0)
past_empty t n x h e =
    ⊎_elim (λ w. absurd (omega (arith, w.1)))
    (λ w. let d : t.rows ≡ 0 → ⊥ = eqb-false _ _ w.0 in (omega arith, w.1))
    (pick_inv (is_empty t) n x e)

-- a register that is not empty is one of those that there are: past them stands no type
pub filled_given : (ts : List MatrixType) (r : ℕ) → is_empty (the_type ts r) ≡ false → r < length ts
filled_given ts r e =
    by_order r (length ts) (λ h. h)
    (λ h. let none : is_empty no_type ≡ false = rw (get_or-eq_default ts no_type h) at e in absurd (true≢false none))

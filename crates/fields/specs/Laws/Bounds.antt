-- A whole field's bounds.
use Rattle.std.specs.Prelude.{ℕ, ◌+◌, ◌-◌, ◌≤◌, ◌≡◌, List, length, get_or}
use Rattle.std.proofs.Common.{sym, ap, ⊎_elim, arith, ltb-false, leb-true}
use Rattle.numbers.specs.Laws.Choice.{pick_inv}
use Rattle.numbers.specs.Little.{u16_at}
use Rattle.fields.specs.Fields.{field_at}
use Rattle.fields.specs.declared.Cursor.{Cursor}
use Rattle.fields.specs.declared.Field.TheVariants.{Whole}

-- a whole field lies within the bytes, and ends after its head
pub record FieldIn (s : List ℕ) (at start len : ℕ) (next : Cursor) : Type 0 where
  pub head : start ≡ at + 3
  pub within : start + len ≤ length s
  pub ends : next.at ≡ start + len

field_in_3 : (s : List ℕ) (at tag start len : ℕ) (next : Cursor) → 3 ≤ length s - at → u16_at s (at + 1) ≤ length s - (at + 3) → Whole (get_or s at 0) (at + 3) (u16_at s (at + 1)) (record { at = at + 3 + u16_at s (at + 1) }) ≡ Whole tag start len next → FieldIn s at start len next
field_in_3 s at tag start len next h3 hl e =
    let a : at + 3 ≡ start = cc in
    let b : u16_at s (at + 1) ≡ len = cc in
    let n : ◌≡◌ {A = Cursor} (record { at = at + 3 + u16_at s (at + 1) }) next = cc in
    let m : at + 3 + u16_at s (at + 1) ≡ next.at = ap (λ (x : Cursor). x.at) n in
    record { head = sym a; within = omega arith; ends = omega arith }

pub field_in : (s : List ℕ) (at tag start len : ℕ) (next : Cursor) → field_at s at ≡ Whole tag start len next → FieldIn s at start len next
unfolding field_at
field_in s at tag start len next e =
    ⊎_elim (λ w. let q = w.1 in let z : ◌≡◌ {A = ℕ} 0 1 = cc in absurd (zero≢one z))
    (λ w.
    ⊎_elim (λ v. field_in_3 s at tag start len next (ltb-false _ _ w.0) (leb-true _ _ v.0) v.1)
    (λ v. let q = v.1 in let z : ◌≡◌ {A = ℕ} 0 1 = cc in absurd (zero≢one z))
    (pick_inv _ _ _ w.1))
    (pick_inv _ _ _ e)
  where
    zero≢one : ◌≡◌ {A = ℕ} 0 1 → ⊥
    zero≢one z = omega arith

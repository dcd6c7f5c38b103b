-- The records from number k on are looked at, over types.
use Rattle.std.specs.Prelude.{ℕ, ◌+◌, ◌-◌, ◌<◌, ◌≤◌, ◌≡◌, true, false, List, length, ℤ}
use Rattle.std.proofs.Math.Nat.{sub-zero}
use native.Mathlib.Omega.{arith}
use Rattle.numbers.specs.Choice.{pick}
use Rattle.numbers.specs.Laws.Choice.{pick_case}
use Rattle.sheet.specs.declared.Sheet.{Sheet}
use Rattle.refusals.specs.Refusals.{record_out_of_range, refusal_at, not_refused}
use Rattle.refusals.specs.declared.Refusal.{Refusal}
use Rattle.registers.specs.Registers.{empty_registers}
use Rattle.registers.specs.declared.MatrixType.{MatrixType}
use Rattle.checking.specs.Laws.Turns.{one_less}
use Rattle.records.specs.declared.Decoded.{Decoded}
use Rattle.records.specs.Room.{records_fit}
use Rattle.judging.specs.Judging.{decoded_ok, decoded_types, range_from, range_refusal, tape_record, tape_refusal}

-- the records from number k on are looked at, over types
module _ (n : ℕ) (sh : Sheet) (len : ℕ) (the : ℕ → Decoded) (k : ℕ) (ts : List MatrixType) where
  pub range_end : n ≤ k → not_refused ≡ range_from (n - k) sh len the k ts
  unfolding range_from
  range_end h = let e : n - k ≡ 0 = omega arith in rw e

  module _ (h : k < n) {d : Decoded} (q : d ≡ the k) where
    pub range_go : decoded_ok sh ts len d ≡ true → range_from (n - (k + 1)) sh len the (k + 1) (decoded_types sh ts d) ≡ range_from (n - k) sh len the k ts
    unfolding range_from pick
    range_go e = rw (one_less n k h, ← q, e)

    pub range_stop : decoded_ok sh ts len d ≡ false → refusal_at record_out_of_range k 0 ≡ range_from (n - k) sh len the k ts
    unfolding range_from pick
    range_stop e = rw (one_less n k h, ← q, e)

pub range_start : (n : ℕ) (sh : Sheet) (len : ℕ) (the : ℕ → Decoded) → range_from (n - 0) sh len the 0 empty_registers.types ≡ range_refusal n sh len the
range_start n sh len the = rw (sub-zero n)

module _ (sh : Sheet) (tape : List ℤ) (records len : ℕ) where
  pub tape_fit : (tape_refusal sh tape records len).number ≡ 0 → records_fit sh.edition (length tape) records ≡ true
  unfolding tape_refusal
  tape_fit =
      pick_case (λ (r : Refusal). r.number ≡ 0 → records_fit sh.edition (length tape) records ≡ true) (records_fit sh.edition (length tape) records) _ _
      (λ e h. e) (λ e h. absurd (omega arith))

  pub tape_clear : (tape_refusal sh tape records len).number ≡ 0 → (range_refusal records sh len (tape_record tape)).number ≡ 0
  unfolding tape_refusal
  tape_clear =
      pick_case (λ (r : Refusal). r.number ≡ 0 → (range_refusal records sh len (tape_record tape)).number ≡ 0) (records_fit sh.edition (length tape) records) _ _
      (λ e h. h) (λ e h. absurd (omega arith))

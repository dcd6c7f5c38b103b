-- What is known of a sheet that is not refused for a memory of a length.
use Rattle.std.specs.Prelude.{ℕ, ◌<◌, ◌≤◌, ◌≡◌, refl, List, eqb, leb}
use Rattle.std.proofs.Common.{arith}
use borrow.Author.Tests.{eqb-true, eqb-false, eq-eqb, ne_eqb, leb-true, le-leb, lt-leb}
use Rattle.numbers.specs.Choice.{pick}
use Rattle.numbers.specs.Laws.Choice.{pick_case, by_order}
use Rattle.refusals.specs.Refusals.{memory_too_large}
use Rattle.sheet_reader.specs.Reading.{read_sheet}
use Rattle.sheet.specs.Sizes.{memory_limit}
use Rattle.sheet_ranges.specs.Laws.Within.{Within}
use Rattle.sheet_reader.specs.Laws.Growing.{read_within}
use Rattle.checking.specs.Checking.{check_refused, admitted, checked, checked_sheet}
use Rattle.checking.specs.declared.CheckAnswer.{CheckAnswer}

pub record Readable (s : List ℕ) (len : ℕ) : Type 0 where
  pub few : len ≤ memory_limit
  pub read : (read_sheet s).refusal.number ≡ 0
  pub within : Within (read_sheet s).sheet
  pub clear : (checked (read_sheet s).sheet len).refusal.number ≡ 0

pub sheet_readable : (s : List ℕ) (len : ℕ) → (checked_sheet s len).refusal.number ≡ 0 → Readable s len
unfolding checked_sheet
sheet_readable s len =
    pick_case P (leb len memory_limit) _ _
    (λ l. pick_case P (eqb (read_sheet s).refusal.number 0) _ _
    (λ e h.
    let read = eqb-true (read_sheet s).refusal.number 0 e in
    record { few = leb-true len memory_limit l; read = read; within = read_within s read; clear = h })
    (λ e h. absurd (eqb-false (read_sheet s).refusal.number 0 e h)))
    (λ l h. absurd (omega arith))
  where
    P : CheckAnswer → Type 0
    P c = c.refusal.number ≡ 0 → Readable s len

-- a sheet that is not admitted is refused so by its check
module _ (s : List ℕ) (len : ℕ) where
  pub admitted_refused : 0 < (admitted s len).refusal.number → checked_sheet s len ≡ check_refused (admitted s len).refusal
  unfolding admitted checked_sheet pick
  admitted_refused h =
      by_order memory_limit len (λ l. rw (lt-leb len memory_limit l))
      (λ l.
      let n : 0 < (read_sheet s).refusal.number = rw (le-leb len memory_limit l) at h in
      rw (le-leb len memory_limit l, ne_eqb (read_sheet s).refusal.number 0 (λ e. omega arith)))

  -- one that is admitted is within Sizes, and its check is that of its steps
  pub record Admitted : Type 0 where
    pub few : len ≤ memory_limit
    pub within : Within (admitted s len).sheet
    pub same : (admitted s len).sheet ≡ (read_sheet s).sheet
    pub check : checked_sheet s len ≡ checked (admitted s len).sheet len

  pub is_admitted : (admitted s len).refusal.number ≡ 0 → Admitted
  unfolding admitted checked_sheet pick
  is_admitted h =
      by_order memory_limit len
      (λ l. let z : memory_too_large ≡ 0 = rw (lt-leb len memory_limit l) at h in absurd (omega arith))
      (λ l.
      let n : (read_sheet s).refusal.number ≡ 0 = rw (le-leb len memory_limit l) at h in
      record {
        few = l;
        within = rw (le-leb len memory_limit l) (read_within s n);
        same = rw (le-leb len memory_limit l) refl;
        check = rw (le-leb len memory_limit l, eq-eqb (read_sheet s).refusal.number 0 n) refl;
      })

-- What holds at the start and is kept by each field that is taken holds of a whole reading.
use Prim.Native.Nat.{ℕ, zero, suc, ◌+◌, ◌-◌, ◌≤◌}
use Rattle.std.specs.Prelude.{◌≡◌, Bool, true, false, List, eqb, ltb, leb, length, get_or}
use Rattle.std.proofs.Common.{arith}
use borrow.Author.Tests.{eqb-true, eqb-false, ltb-false, leb-true}
use Rattle.numbers.specs.Choice.{pick}
use Rattle.numbers.specs.Laws.Choice.{pick_case}
use Rattle.numbers.specs.Little.{u16_at}
use Rattle.refusals.specs.Refusals.{cut_short, unknown_edition}
use Rattle.sheet_ranges.specs.Sheets.{empty_sheet}
use Rattle.sheet.specs.declared.Sheet.{Sheet}
use Rattle.fields.specs.Fields.{field_at}
use Rattle.fields.specs.declared.Field.{Field}
use Rattle.sheet_reader.specs.Reading.{given_of, edition_refusal, layout_refusal, view_refusal, step_refusal, field_refusal, with_field, refused_read, end_read, Turn, over, on, turn_field, turn, after_turn, read_from, read_sheet}
use Rattle.sheet_reader.specs.Laws.Taken.{Took, took}
use Rattle.sheet_reader.specs.declared.Given.{Given}
use Rattle.sheet_reader.specs.declared.ReadAnswer.{ReadAnswer}

-- the tag and the length of the content of the field at a byte, and the byte past it
abbrev pub tag_at : List ℕ → ℕ → ℕ
tag_at s at = get_or s at 0

abbrev pub length_at : List ℕ → ℕ → ℕ
length_at s at = u16_at s (at + 1)

abbrev pub next_at : List ℕ → ℕ → ℕ
next_at s at = at + 3 + length_at s at

-- a field's refusal is one of 2 to 6
pick_most : (b : Bool) {x y n : ℕ} → x ≤ n → y ≤ n → pick b x y ≤ n
unfolding pick
pick_most true h k = h
pick_most false h k = k

field_number : (s : List ℕ) (tag p len : ℕ) (g : Given) → field_refusal s tag p len g ≤ unknown_edition
unfolding field_refusal edition_refusal layout_refusal view_refusal step_refusal
field_number s tag p len g =
    pick_most _ (pick_most _ (omega arith) (pick_most _ (pick_most _ (omega arith) (omega arith)) (omega arith)))
    (pick_most _ (pick_most _ (pick_most _ (pick_most _ (pick_most _ (omega arith) (omega arith)) (omega arith)) (omega arith)) (omega arith))
    (pick_most _ (pick_most _ (pick_most _ (pick_most _ (pick_most _ (omega arith) (omega arith)) (omega arith)) (omega arith)) (omega arith))
    (pick_most _ (omega arith)
    (pick_most _ (pick_most _ (pick_most _ (pick_most _ (pick_most _ (omega arith) (omega arith)) (omega arith)) (omega arith)) (omega arith)) (omega arith)))))

-- R of a reading that is over, P of one that goes on
abbrev pub Goes : (ℕ → Sheet → Type 0) → (ReadAnswer → Type 0) → Turn → Type 0
Goes P R (over r) = R r
Goes P R (on at sh) = P at sh

-- every way that a turn at a byte with a sheet can go
pub record Ways (s : List ℕ) (P : ℕ → Sheet → Type 0) (R : ReadAnswer → Type 0) (at : ℕ) (sh : Sheet) : Type 0 where
  pub refused : (n : ℕ) → 1 ≤ n → n ≤ unknown_edition → R (refused_read n at)
  pub ended : length s ≤ at → R (end_read sh (length s))
  pub taken :
      next_at s at ≤ length s → Took s (at + 3) (length_at s at) (given_of sh) (tag_at s at) → P (next_at s at) (with_field s (tag_at s at) (at + 3) sh)

module _ (s : List ℕ) (P : ℕ → Sheet → Type 0) (R : ReadAnswer → Type 0) where
  module _ (at : ℕ) (sh : Sheet) (w : Ways s P R at sh) where
    abbrev number : ℕ
    number = field_refusal s (tag_at s at) (at + 3) (length_at s at) (given_of sh)

    abbrev OnField : Field → Type 0
    OnField f = Goes P R (turn_field s at sh f)

    -- a turn goes one of these ways
    pub turn_goes : Goes P R (turn s at sh)
    unfolding turn field_at turn_field
    turn_goes =
        pick_case (Goes P R) (ltb at (length s)) _ _
        (λ h.
        pick_case OnField (ltb (length s - at) 3) _ _ (λ q. w.refused cut_short (omega arith) (omega arith))
        (λ a.
        pick_case OnField (leb (length_at s at) (length s - (at + 3))) _ _
        (λ b.
        pick_case (Goes P R) (eqb number 0) _ _
        (λ e.
        w.taken (omega (arith, ltb-false (length s - at) 3 a, leb-true (length_at s at) (length s - (at + 3)) b))
        (took s (at + 3) (length_at s at) (given_of sh) (tag_at s at) (eqb-true number 0 e)))
        (λ e.
        let d : number ≡ 0 → ⊥ = eqb-false number 0 e in
        w.refused number (omega arith) (field_number s (tag_at s at) (at + 3) (length_at s at) (given_of sh))))
        (λ q. w.refused cut_short (omega arith) (omega arith))))
        (λ h. w.ended (ltb-false _ _ h))

  after : (f : ℕ → Sheet → ReadAnswer) → ((at : ℕ) (sh : Sheet) → P at sh → R (f at sh)) → (t : Turn) → Goes P R t → R (after_turn f t)
  unfolding after_turn
  after f g (over r) h = h
  after f g (on at sh) h = g at sh h

  reads_from : ((at : ℕ) (sh : Sheet) → P at sh → Ways s P R at sh) → (n at : ℕ) (sh : Sheet) → P at sh → R (read_from n s at sh)
  unfolding read_from
  reads_from w zero at sh p = (w at sh p).refused cut_short (omega arith) (omega arith)
  reads_from w (suc n) at sh p =
      after (read_from n s) (λ at sh p. reads_from w n at sh p) (turn s at sh) (turn_goes at sh (w at sh p))

  pub reads : P 0 empty_sheet → ((at : ℕ) (sh : Sheet) → P at sh → Ways s P R at sh) → R (read_sheet s)
  unfolding read_sheet
  reads p w = reads_from w (suc (length s)) 0 empty_sheet p

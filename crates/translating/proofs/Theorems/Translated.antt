-- Where translating is not refused, the room holds the tape that document 01 gives, from its start on, the area the masks of all steps, and nothing
-- else is written.
use Rattle.std.specs.Prelude.{ℕ, ◌*◌, ◌≤◌, ◌≡◌, true, List, eqb, ℤ, length}
use Rattle.std.proofs.Math.Path.{refl}
use Rattle.std.proofs.Common.{sym, ap, ◌∙◌, arith}
use borrow.Author.Tests.{eqb-true, eqb-false, eq-eqb, leb-true}
use Rattle.std.proofs.lemmas.List.Edits.{sets}
use Rattle.numbers.specs.Choice.{pick}
use Rattle.numbers.specs.Laws.Choice.{pick_case, both_true, both_right}
use Rattle.sheet_reader.specs.Reading.{read_sheet}
use Rattle.checking.specs.Checking.{checked_sheet}
use Rattle.records.specs.Records.{record_length, tape_numbers}
use Rattle.records.specs.Laws.Records.{length_tape}
use Rattle.records.specs.Room.{records_fit}
use Rattle.masks.specs.Masks.{mask_area}
use Rattle.translating.specs.Tapes.{tape_of}
use Rattle.translating.specs.GivenTape.{GivenTape}
use Rattle.translating.proofs.Theorems.GivenTape.{tape_only}
use Rattle.translating.specs.Translating.{fits_room, translated, translates, translated_room}
use Rattle.translating.specs.declared.TranslateAnswer.{TranslateAnswer}

-- a sheet that is translated into a room of numbers and an area of bytes
pub record Translated (s : List ℕ) (len room area : ℕ) (r : TranslateAnswer) : Type 0 where
  pub accepted : (checked_sheet s len).refusal.number ≡ 0
  pub fits : fits_room s len room area ≡ true
  pub records : r.records ≡ length (tape_of (read_sheet s).sheet len)
  pub count : r.count ≡ (checked_sheet s len).count

module _ (s : List ℕ) (len room area : ℕ) where
  is_translated : (translated s len room area).refusal.number ≡ 0 → Translated s len room area (translated s len room area)
  unfolding translated
  is_translated =
      pick_case P (eqb (checked_sheet s len).refusal.number 0) _ _
      (λ e. pick_case P (fits_room s len room area) _ _
      (λ f h. record { accepted = eqb-true (checked_sheet s len).refusal.number 0 e; fits = f; records = refl; count = refl })
      (λ f h. absurd (omega arith)))
      (λ e h. absurd (eqb-false (checked_sheet s len).refusal.number 0 e h))
    where
      P : TranslateAnswer → Type 0
      P r = r.refusal.number ≡ 0 → Translated s len room area r

  module _ (h : (translated s len room area).refusal.number ≡ 0) where
    pub told : Translated s len room area (translated s len room area)
    told = is_translated h

    pub does : translates s len room area ≡ true
    unfolding translates
    does = both_true _ _ (eq-eqb _ 0 told.accepted) told.fits

    pub fits_area : mask_area ≤ area
    unfolding fits_room
    fits_area = leb-true _ _ (both_right (records_fit (read_sheet s).sheet.edition room (length (tape_of (read_sheet s).sheet len))) _ told.fits)

module _ (s : List ℕ) (len : ℕ) (room : List ℤ) (area : ℕ) (h : (translated s len (length room) area).refusal.number ≡ 0) where
  pub room_is : translated_room s len room area ≡ sets room 0 (tape_numbers (tape_of (read_sheet s).sheet len))
  unfolding translated_room pick
  room_is = rw (does s len (length room) area h)

module _ (s : List ℕ) (len : ℕ) (room : List ℤ) (area : ℕ) (h : (translated s len (length room) area).refusal.number ≡ 0) where
  pub translated_given : (xs : List ℤ) → GivenTape (read_sheet s).sheet len xs → translated_room s len room area ≡ sets room 0 xs
  translated_given xs g = room_is s len room area h ∙ ap (sets room 0) (sym (tape_only (read_sheet s).sheet len xs g))

  pub translated_count : (xs : List ℤ) → GivenTape (read_sheet s).sheet len xs → (translated s len (length room) area).records * record_length ≡ length xs
  translated_count xs g =
      ap (λ (n : ℕ). n * record_length) (told s len (length room) area h).records
      ∙ sym (length_tape (tape_of (read_sheet s).sheet len))
      ∙ ap length (sym (tape_only (read_sheet s).sheet len xs g))

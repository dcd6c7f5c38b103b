use Prim.Native.Nat.{ℕ}
use mathlib.Core.Path.{◌≡◌, sym, ap, ◌∙◌}
use mathlib.Core.Bool.{Bool}
use mathlib.Core.List.{List}
use lib.Dec.{leb}
use lib.ListN.{length}
use Rattle.numbers.specs.Choice.{both}
use Rattle.numbers.specs.Laws.Choice.{went}
use Rattle.refusals.specs.declared.Refusal.{Refusal}
use Rattle.sheet_reader.specs.Reading.{read_sheet}
use Rattle.checking.specs.Checking.{admitted, checked_sheet}
use Rattle.checking.specs.Laws.Met.{the_edition}
use Rattle.checking.specs.Laws.Readable.{admitted_refused, is_admitted}
use Rattle.checking.specs.declared.CheckAnswer.{CheckAnswer}
use Rattle.records.specs.Room.{records_fit}
use Rattle.masks.specs.Masks.{mask_area}
use Rattle.translating.specs.Tapes.{tape_of}
use Rattle.translating.specs.Translating.{translate_answer, fits_room}
use Rattle.translating.proofs.Laws.{refused_answer_lem, refused_not, long_answer, tape_answer, fine_room, tape_kept, masks_kept, tape_room, masks_room, fits_room_lem, fits_area, room_tested, steps_check}
use native.Mathlib.Omega.{arith}
use Rattle.translating.proofs.translate.Goals as goal
use Rattle.translating.proofs.translate.Goals.{After-count_tape-found}

abbrev refusal : CheckAnswer → Refusal
refusal x = x.refusal

-- a sheet that is read, its steps checked and counted
module _ (c : After-count_tape-found) where
  abbrev s : List ℕ
  s = c.args.sheet.now

  abbrev len : ℕ
  len = c.args.memory_len

  zero : c.admit-read.result.refusal.number ≡ 0
  zero = omega (arith, c.if-unread-gt0.false)

  read : (admitted s len).refusal.number ≡ 0
  read = ap (λ (x : Refusal). x.number) (sym c.admit-read.ensures.refusal_value) ∙ zero

  is : c.count_tape-found.result.refusal ≡ (checked_sheet s len).refusal
  is = c.count_tape-found.ensures.refusal_value ∙ sym (ap refusal (steps_check s len read))

  module _ (fine : c.count_tape-found.result.refusal.number ≡ 0) where
    count : c.count_tape-found.result.count ≡ (checked_sheet s len).count
    count = (c.count_tape-found.ensures.count_value fine).0 ∙ sym (ap (λ (x : CheckAnswer). x.count) (steps_check s len read))

    records : c.count_tape-found.result.records ≡ length (tape_of (read_sheet s).sheet len)
    records = (c.count_tape-found.ensures.count_value fine).1

    tested : {b : Bool} (room area : ℕ) → b ≡ both (records_fit c.admit-read.result.given.edition room c.count_tape-found.result.records) (leb mask_area area) → b ≡ fits_room s len room area
    tested room area e = room_tested s len room area (the_edition (c.admit-read.ensures.outlined zero)) records e

pub returns-then-unread-gt0 : goal.returns-then-unread-gt0
returns-then-unread-gt0 c =
    let a = c.args in
    let s = a.sheet.now in
    let room = length a.tape.now in
    let area = length a.masks.now in
    let e = c.admit-read.ensures.refusal_value in
    let n = c.if-unread-gt0.true in
    let is = e ∙ sym (ap refusal (admitted_refused s a.memory_len (rw e at n))) in
    let not = refused_not s a.memory_len is room area n in record {
      value = c.translate_refused.ensures ∙ refused_answer_lem s a.memory_len is room area n;
      tape_after = tape_kept s a.memory_len a.tape.now area not;
      masks_after = masks_kept s a.memory_len room a.masks.now not;
    }

pub count_tape-found-requires : goal.count_tape-found-requires
count_tape-found-requires c =
    let a = c.args in
    let e = c.admit-read.ensures in
    let zero : c.admit-read.result.refusal.number ≡ 0 = omega (arith, c.if-unread-gt0.false) in
    (e.outlined zero, (is_admitted a.sheet.now a.memory_len (rw e.refusal_value at zero)).few)

pub returns-then-refused-gt0 : goal.returns-then-refused-gt0
returns-then-refused-gt0 c =
    let a = c.args in
    let room = length a.tape.now in
    let area = length a.masks.now in
    let k = (goal.at.returns-then-refused-gt0 c).After-count_tape-found in
    let n = c.if-refused-gt0.true in
    let not = refused_not (s k) (len k) (is k) room area n in record {
      value = c.translate_refused-then-refused-gt0.ensures ∙ refused_answer_lem (s k) (len k) (is k) room area n;
      tape_after = tape_kept (s k) (len k) a.tape.now area not;
      masks_after = masks_kept (s k) (len k) room a.masks.now not;
    }

pub returns-then-not-room_fits : goal.returns-then-not-room_fits
returns-then-not-room_fits c =
    let a = c.args in
    let room = length a.tape.now in
    let area = length a.masks.now in
    let k = (goal.at.returns-then-not-room_fits c).After-count_tape-found in
    let fine : k.count_tape-found.result.refusal.number ≡ 0 = omega (arith, c.if-refused-gt0.false) in
    let long = went (tested k fine room area c.room_fits.ensures) c.if-not-room_fits.true in
    let not = fine_room (s k) (len k) (is k) fine room area long in record {
      value = c.translate_refused-then-not-room_fits.ensures
          ∙ ap (λ (x : Refusal). translate_answer x 0 0) c.refusal_at.ensures
          ∙ long_answer (s k) (len k) (is k) fine room area long;
      tape_after = tape_kept (s k) (len k) a.tape.now area not;
      masks_after = masks_kept (s k) (len k) room a.masks.now not;
    }

pub write_tape-requires : goal.write_tape-requires
write_tape-requires c =
    let a = c.args in
    let room = length a.tape.now in
    let area = length a.masks.now in
    let k = (goal.at.write_tape-requires c).After-count_tape-found in
    let fine : k.count_tape-found.result.refusal.number ≡ 0 = omega (arith, c.if-refused-gt0.false) in
    let fits = went (tested k fine room area c.room_fits.ensures) c.if-not-room_fits.false in
    let clear = ap (λ (x : Refusal). x.number) (sym k.count_tape-found.ensures.refusal_value) ∙ fine in record {
      outlined = (c.admit-read.ensures.outlined (zero k), (is_admitted (s k) (len k) (read k)).few, clear);
      record_length_in_bounds = fits_room_lem (s k) (len k) room area fits;
      mask_area_in_bounds = fits_area (s k) (len k) room area fits;
    }

pub returns : goal.returns
returns c =
    let a = c.args in
    let room = length a.tape.now in
    let area = length a.masks.now in
    let k = (goal.at.returns c).After-count_tape-found in
    let fine : k.count_tape-found.result.refusal.number ≡ 0 = omega (arith, c.if-refused-gt0.false) in
    let fits = went (tested k fine room area c.room_fits.ensures) c.if-not-room_fits.false in
    let does = fine_room (s k) (len k) (is k) fine room area fits in
    let wrote = c.write_tape.ensures in record {
      value = ap (λ (x : Refusal). translate_answer x k.count_tape-found.result.count k.count_tape-found.result.records) c.not_refused.ensures
          ∙ tape_answer (s k) (len k) (is k) fine room area (count k fine) (records k fine) fits;
      tape_after = wrote.tape_after ∙ tape_room (s k) (len k) a.tape.now area does;
      masks_after = wrote.masks_after ∙ masks_room (s k) (len k) room a.masks.now does;
    }

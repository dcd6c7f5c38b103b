use mathlib.Core.Path.{sym, ap, subst, ◌∙◌}
use mathlib.Core.List.{List}
use Rattle.outcomes.specs.declared.Outcome.{Outcome}
use Rattle.sheet_reader.specs.Parts.{sheet_of}
use Rattle.addressing.specs.declared.Access.{Access}
use Rattle.records.specs.declared.Record.{Record}
use Rattle.masks.specs.Masks.{bit_of, mask_of, mask_place}
use Rattle.access_tapes.specs.Accesses.{access_outcomes}
use Rattle.access_tapes.specs.Writing.{Room, Wrote}
use Rattle.translating.specs.Turns.{turn_records, ClearTurn}
use Rattle.translating.proofs.Laws.{whole_turn, whole_none}
use lib.Seq.{sets}
use Rattle.translating.proofs.write_turn.Goals as goal

pub write_whole-requires : goal.write_whole-requires
write_whole-requires c =
    let s = c in
    let a = s.args in
    let one = whole_turn (sheet_of a.s.now).tensors a.types a.memory a.k c.in-Whole.is in
    (s.requires.k_lt_step_places.0, s.requires.k_lt_step_places.1, subst (λ (rs : List Record). Room a.tape.now a.at rs) one s.requires.room)

pub step_access-access-requires : goal.step_access-access-requires
step_access-access-requires c = c.requires.by_index

pub write_step-requires : goal.write_step-requires
write_step-requires c =
    let s = c in
    let a = s.args in
    let e = sym c.step_access-access.ensures in record {
      clear_turn = (subst (λ (x : Access). ClearTurn a.step x) e s.requires.clear_turn.0, s.requires.clear_turn.1);
      k_lt_step_places = s.requires.k_lt_step_places;
      room = subst (λ (x : Access). Room a.tape.now a.at (turn_records a.k a.step x)) e s.requires.room;
    }

pub returns-in-Whole : goal.returns-in-Whole
returns-in-Whole c =
    let s = c in
    let a = s.args in
    let g = c.in-Whole.is in
    let w = c.write_whole in
    let tensors = (sheet_of a.s.now).tensors in record {
      entries_len = s.requires.clear_turn.1;
      wrote = subst (λ (rs : List Record). Wrote a.tape.now w.new.tape a.at rs w.result) (sym (whole_turn tensors a.types a.memory a.k g)) w.ensures.wrote;
      masks_after = w.ensures.masks_after ∙ ap (λ (os : List Outcome). sets a.masks.now (mask_place a.k) (mask_of (bit_of os))) (sym (whole_none tensors a.types a.memory a.k g));
    }

pub returns-in_default : goal.returns-in_default
returns-in_default c =
    let s = c in
    let a = s.args in
    let e = c.step_access-access.ensures in
    let w = c.write_step in record {
      entries_len = w.ensures.entries_len;
      wrote = subst (λ (x : Access). Wrote a.tape.now w.new.tape a.at (turn_records a.k a.step x) w.result) e w.ensures.wrote;
      masks_after = w.ensures.masks_after ∙ ap (λ (x : Access). sets a.masks.now (mask_place a.k) (mask_of (bit_of (access_outcomes x)))) e;
    }

use Prim.Native.Nat.{ℕ, ◌<◌}
use mathlib.Core.Path.{sym, subst}
use Rattle.sheet.specs.Sizes.{register_count}
use Rattle.access_tapes.specs.Accesses.{access_records}
use Rattle.access_tapes.specs.Writing.{Room, Wrote}
use Rattle.access_tapes.specs.Laws.Writing.{wrote_both}
use Rattle.translating.specs.Turns.{apart_records, moved_register}
use Rattle.translating.proofs.Laws.{turn_clear, turn_register, apart_room, runs_room}
use Rattle.translating.proofs.write_step.Goals as goal

pub write_apart-next-requires : goal.write_apart-next-requires
write_apart-next-requires c =
    let s = c in
    let a = s.args in
    record {
      clear_turn = (s.requires.clear_turn.0, s.requires.k_lt_step_places.0);
      room = apart_room a.tape.now a.at a.k a.step a.access s.requires.room;
    }

pub write_access-requires : goal.write_access-requires
write_access-requires c =
    let s = c in
    let a = s.args in
    let w = c.write_apart-next in
    let e = sym c.moved_register-register.ensures in record {
      clear_access = (turn_clear s.requires.clear_turn.0, s.requires.clear_turn.1);
      k_lt_step_places = (s.requires.k_lt_step_places.0, s.requires.k_lt_step_places.1);
      register_lt_register_count = (
        subst (λ (r : ℕ). r < register_count) e (turn_register s.requires.clear_turn.0),
        subst (λ (r : ℕ). Room w.new.tape w.result (access_records a.access r)) e
            (runs_room a.tape.now a.at a.k a.step a.access s.requires.room w.new.tape w.auto.tape w.ensures.next),
      );
    }

pub returns : goal.returns
returns c =
    let a = c.args in
    let w = c.write_apart-next in
    let v = c.write_access in
    let runs = subst (λ (r : ℕ). Wrote w.new.tape v.new.tape w.result (access_records a.access r) v.result) c.moved_register-register.ensures v.ensures.wrote in record {
      entries_len = v.ensures.entries_len;
      wrote = wrote_both a.tape.now a.at (apart_records a.k a.step a.access) (access_records a.access (moved_register a.step)) w.ensures runs;
      masks_after = v.ensures.masks_after;
    }

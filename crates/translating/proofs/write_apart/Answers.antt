use mathlib.Core.Path.{refl}
use Rattle.translating.proofs.Laws.{turn_few, loaded_register, loaded_object, loaded_some}
use native.Mathlib.Omega.{arith}
use Rattle.translating.proofs.write_apart.Goals as goal

pub write_object-requires : goal.write_object-requires
write_object-requires c =
    let s = c in
    let g = c.in-Load.is in
    let t = s.requires.clear_turn.0 in
    record {
      register_lt_register_count = (loaded_register t g, loaded_object t g, loaded_some t g, turn_few t);
      room = rw g at s.requires.room;
    }

pub write_record-requires : goal.write_record-requires
write_record-requires c =
    let s = c in
    (omega (arith, s.requires.clear_turn.1), rw c.in-Whole.is at s.requires.room)

pub returns-in-Nothing : goal.returns-in-Nothing
returns-in-Nothing c = rw c.in-Nothing.is (record { next = omega arith; numbers = refl })

pub returns-in-Load : goal.returns-in-Load
returns-in-Load c = rw c.in-Load.is c.write_object.ensures

pub returns-in-Store : goal.returns-in-Store
returns-in-Store c = rw c.in-Store.is (record { next = omega arith; numbers = refl })

pub returns-in-Whole : goal.returns-in-Whole
returns-in-Whole c = rw c.in-Whole.is c.write_record.ensures

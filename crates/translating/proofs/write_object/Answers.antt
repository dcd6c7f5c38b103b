use mathlib.Core.Path.{refl}
use Prim.Native.Nat.{◌<◌}
use Rattle.sheet.specs.Sizes.{register_count}
use native.Mathlib.Omega.{arith}
use Rattle.translating.proofs.write_object.Goals as goal

pub write_record-requires : goal.write_record-requires
write_record-requires c =
    let s = c in (
      (record { register = s.requires.register_lt_register_count.0; first = omega arith; some = s.requires.register_lt_register_count.2; count = omega (arith, s.requires.register_lt_register_count.3) }, omega arith),
      rw c.in-Zeros.is at s.requires.room,
    )

pub write_record-requires-in-Register : goal.write_record-requires-in-Register
write_record-requires-in-Register c =
    let s = c in
    let source : c.in-Register.source < register_count = rw c.in-Register.is at s.requires.register_lt_register_count.1 in
    ((s.requires.register_lt_register_count.0, source), rw c.in-Register.is at s.requires.room)

pub returns-in-Kept : goal.returns-in-Kept
returns-in-Kept c = rw c.in-Kept.is (record { next = omega arith; numbers = refl })

pub returns-in-Zeros : goal.returns-in-Zeros
returns-in-Zeros c = rw c.in-Zeros.is c.write_record.ensures

pub returns-in-Register : goal.returns-in-Register
returns-in-Register c = rw c.in-Register.is c.write_record-in-Register.ensures

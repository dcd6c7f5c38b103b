use Rattle.carrying.specs.Steps.{with_object}
use Rattle.carrying.proofs.performing.with_object.Goals as goal

pub copy_register-requires : goal.copy_register-requires
copy_register-requires c = let s = c in record {
  register_lt_register_count = (s.requires.register_lt_register_count.0, rw c.in-Register.is at s.requires.register_lt_register_count.1);
  sized = s.requires.sized;
}

pub returns-in-Kept : goal.returns-in-Kept
unfolding with_object
returns-in-Kept c = rw c.in-Kept.is

pub returns-in-Zeros : goal.returns-in-Zeros
unfolding with_object
returns-in-Zeros c = rw c.in-Zeros.is c.zero_register.ensures

pub returns-in-Register : goal.returns-in-Register
unfolding with_object
returns-in-Register c = rw c.in-Register.is c.copy_register.ensures

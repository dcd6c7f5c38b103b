use native.Mathlib.Omega.{arith}
use Rattle.translating.proofs.count_object.Goals as goal

pub returns-in-Kept : goal.returns-in-Kept
returns-in-Kept c = record {
  by_index = λ register t. rw c.in-Kept.is;
  upper_bound = omega arith;
}

pub returns-in-Zeros : goal.returns-in-Zeros
returns-in-Zeros c = record {
  by_index = λ register t. rw c.in-Zeros.is;
  upper_bound = omega arith;
}

pub returns-in-Register : goal.returns-in-Register
returns-in-Register c = record {
  by_index = λ register t. rw c.in-Register.is;
  upper_bound = omega arith;
}

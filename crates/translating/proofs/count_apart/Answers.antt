use Rattle.translating.specs.Turns.{matrix_of}
use native.Mathlib.Omega.{arith}
use Rattle.translating.proofs.count_apart.Goals as goal

pub returns-in-Nothing : goal.returns-in-Nothing
returns-in-Nothing c = record {
  by_index = λ k a. rw c.in-Nothing.is;
  upper_bound = omega arith;
}

pub returns-in-Load : goal.returns-in-Load
returns-in-Load c =
    let e = c.count_object.ensures in
    record {
      by_index = λ k a. rw c.in-Load.is (e.by_index c.in-Load.register (matrix_of a));
      upper_bound = e.upper_bound;
    }

pub returns-in-Store : goal.returns-in-Store
returns-in-Store c = record {
  by_index = λ k a. rw c.in-Store.is;
  upper_bound = omega arith;
}

pub returns-in-Whole : goal.returns-in-Whole
returns-in-Whole c = record {
  by_index = λ k a. rw c.in-Whole.is;
  upper_bound = omega arith;
}

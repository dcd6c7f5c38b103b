use borrow.Author.Tests.{ltb-true}
use Rattle.checking.proofs.turns.view_named.Goals as goal

pub view_in-requires : goal.view_in-requires
view_in-requires c =
    let s = c in
    (s.requires.0, ltb-true c.in-Through.v _ (rw c.in-Through.is at s.requires.1))

pub returns-in-Through : goal.returns-in-Through
returns-in-Through c = rw c.in-Through.is c.view_in.ensures

use native.Mathlib.Omega.{arith}
use Rattle.carrying.proofs.performing.zero_register.Goals as goal

pub element_count-count-requires : goal.element_count-count-requires
element_count-count-requires c = let s = c in rw c.the_type-t.ensures (s.requires.1.each s.args.register)

pub fill_elements-requires : goal.fill_elements-requires
fill_elements-requires c = (c.requires.0, omega (arith, c.element_count-count.ensures.1))

pub returns : goal.returns
returns c = rw (c.fill_elements.ensures, c.element_count-count.ensures.0, c.the_type-t.ensures)

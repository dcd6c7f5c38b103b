use Rattle.addressing.proofs.Laws.{and_so, plan_is}
use Rattle.addressing.proofs.plan_of.Goals as goal

pub returns : goal.returns
returns c = and_so
    (plan_is c.args.a (rw c.wide.ensures.0 at c.min.ensures) c.low_bits.ensures c.sizes_of.ensures c.strides_of.ensures.0 c.tail_of-tail.ensures.value.0 c.tail_of-tail.ensures.numbers_after)
    (λ e. record { valid = c.requires; same = e; few = c.requires.sized.area; strides = c.strides_of.ensures.1; start = c.tail_of-tail.ensures.value.1 })

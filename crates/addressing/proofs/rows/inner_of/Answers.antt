use Rattle.addressing.proofs.Laws.{inside_lower, inside_upper}
use Rattle.addressing.proofs.rows.inner_of.Goals as goal

pub returns-then-raw-lt32768 : goal.returns-then-raw-lt32768
returns-then-raw-lt32768 c = inside_lower c.args.x c.requires c.wide-raw.ensures.0 c.wide-size.ensures.0 c.if-raw-lt32768.true c.saturating_sub.ensures

pub returns : goal.returns
returns c = inside_upper c.args.x c.requires c.wide-raw.ensures.0 c.wide-size.ensures.0 c.wide-raw.ensures.1 c.if-raw-lt32768.false

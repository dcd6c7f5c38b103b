use mathlib.Core.Path.{ap}
use borrow.Author.Tests.{le-leb, lt-leb}
use Rattle.numbers.specs.Choice.{pick}
use Rattle.refusals.specs.declared.Refusal.{Refusal}
use Rattle.sheet.specs.Sizes.{memory_limit}
use Rattle.sheet_reader.specs.declared.Outline.{Outline}
use Rattle.checking.specs.Checking.{admitted}
use native.Mathlib.Omega.{arith}
use Rattle.checking.proofs.admit.Goals as goal

pub returns-then-memory_len-gt-MEMORY_LIMIT : goal.returns-then-memory_len-gt-MEMORY_LIMIT
unfolding admitted pick
returns-then-memory_len-gt-MEMORY_LIMIT c =
    let e = c.refusal_at.ensures in
    record {
      refusal_value = rw (lt-leb _ memory_limit c.if-memory_len-gt-MEMORY_LIMIT.true) e;
      outlined = λ z. absurd (omega (arith, z, ap (λ (r : Refusal). r.number) e));
    }

pub returns : goal.returns
unfolding admitted pick
returns c =
    let e = c.outline_sheet.ensures in
    record {
      refusal_value = rw (le-leb _ memory_limit c.if-memory_len-gt-MEMORY_LIMIT.false) (ap (λ (o : Outline). o.refusal) e.value);
      outlined = e.outlined;
    }

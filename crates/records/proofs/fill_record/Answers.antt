use Rattle.numbers.specs.Laws.Choice.{taken, went}
use Rattle.records.specs.Records.{fill_of}
use Rattle.records.proofs.Laws.{fill_count, elements_read}
use native.Mathlib.Omega.{arith}
use Rattle.records.proofs.fill_record.Goals as goal

pub returns : goal.returns
unfolding fill_of
returns c =
    let ok = went c.fill_in_range.ensures c.if-not-fill_in_range.false in (
      taken _ ok (cc),
      (
        elements_read _ (fill_count _ _ _ _ _ ok) c.register_at.ensures.1 c.rise.ensures.1 c.rise-2.ensures.0 c.rise-2.ensures.1,
        omega arith,
      ),
    )

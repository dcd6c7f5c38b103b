use Rattle.numbers.specs.Laws.Choice.{taken, went}
use Rattle.records.specs.Records.{moved_of}
use Rattle.records.specs.Laws.Records.{moved_within}
use Rattle.records.proofs.Laws.{bytes_count, bytes_step, elements_read, bytes_read}
use Rattle.records.proofs.bytes_record.Goals as goal

pub returns : goal.returns
unfolding moved_of
returns c =
    let ok = went c.bytes_in_range.ensures c.if-not-bytes_in_range.false in (
      taken _ ok (cc),
      rw c.moved.ensures
          (moved_within c.args.take
          (elements_read _ (bytes_count _ _ _ _ _ ok) c.register_at-register.ensures.1
          c.rise-first.ensures.1
          c.rise-count.ensures.0
          c.rise-count.ensures.1)
          (bytes_read _ (bytes_step _ _ _ _ _ ok) c.rise-byte.ensures.1
          c.rise-up.ensures.0
          c.fall-down.ensures)),
    )

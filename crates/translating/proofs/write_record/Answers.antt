use mathlib.Core.Path.{refl}
use mathlib.Core.List.{append-nil}
use Rattle.records.specs.Records.{record_numbers}
use Rattle.translating.proofs.write_record.Goals as goal

pub returns : goal.returns
returns c =
    record { next = refl; numbers = rw (append-nil (record_numbers c.args.r)) c.put_record.ensures }

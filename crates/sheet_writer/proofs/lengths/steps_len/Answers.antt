use Rattle.std.proofs.Common.{rules, arith}
use Rattle.fields.specs.Laws.Lengths.{length_field}
use Rattle.sheet.specs.declared.Cell.{Cell}
use Rattle.step_bytes.specs.Bytes.{step_tag, step_bytes, step_field}
use Rattle.sheet_writer.proofs.Laws.Sums.{sum_is, sum_fits}
use Rattle.sheet_writer.proofs.lengths.steps_len.Goals as goal

pub sum-requires-clause-fits : goal.sum-requires-clause-fits
sum-requires-clause-fits c =
    sum_fits _ (λ (x : Cell). step_field c.args.edition x.step) 65538 c.args.count c.args.cs c.map.result (omega arith) (cc) (λ x r q k. let e = length_field (step_tag x.now.step) (step_bytes c.args.edition x.now.step) in search rules) _ (omega arith)

pub returns : goal.returns
returns c =
    sum_is _ (λ (x : Cell). step_field c.args.edition x.step) 65538 c.args.count c.args.cs c.map.result (omega arith) (cc) (λ x r q k. let e = length_field (step_tag x.now.step) (step_bytes c.args.edition x.now.step) in search rules) _ _ c.sum.ensures.ran

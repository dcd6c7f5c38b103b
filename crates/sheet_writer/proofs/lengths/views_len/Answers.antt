use Rattle.std.proofs.Common.{rules, arith}
use Rattle.fields.specs.Laws.Lengths.{length_field}
use Rattle.sheet.specs.Codes.{view_tag}
use Rattle.sheet_bytes.specs.Bytes.{view_bytes, view_field}
use Rattle.sheet_writer.proofs.Laws.Sums.{sum_is, sum_fits}
use Rattle.sheet_writer.proofs.lengths.views_len.Goals as goal

pub sum-requires-clause-fits : goal.sum-requires-clause-fits
sum-requires-clause-fits c =
    let a = c.args in
    sum_fits _ view_field 65538 a.count a.vs c.map.result (omega arith) (cc) (λ x r q k. let e = length_field view_tag (view_bytes x.now) in search rules) _ (omega arith)

pub returns : goal.returns
returns c =
    let a = c.args in
    sum_is _ view_field 65538 a.count a.vs c.map.result (omega arith) (cc) (λ x r q k. let e = length_field view_tag (view_bytes x.now) in search rules) _ _ c.sum.ensures.ran

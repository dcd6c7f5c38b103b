use mathlib.Core.Path.{ap, sym, subst, ◌∙◌}
use Rattle.carrying.specs.Carrying.{CarriedOut}
use Rattle.rows.specs.Rows.{types_row, answer_row}
use Rattle.rows.specs.Small.{Small}
use Rattle.small_answers.specs.Laws.Small.{carried_small}
use Rattle.moonbleat.proofs.moonbleat_carry_out.Goals as goal

pub put_answer-requires : goal.put_answer-requires
put_answer-requires c = subst (λ (x : CarriedOut). Small x.refusal x.counts.placed) (sym c.carry_out-done.ensures.elements_after) (carried_small _ _)

pub returns : goal.returns
returns c =
    let d = c.carry_out-done.ensures in
    let g = c.put_types.ensures in
    let p = c.put_answer.ensures in
    let e = d.elements_after in record {
      value = p.value ∙ ap (λ (x : CarriedOut). x.refusal.number) e;
      memory_after = d.memory_after;
      types_after = g ∙ ap (λ (x : CarriedOut). types_row x.registers.types) e;
      elements_after = ap (λ (x : CarriedOut). x.registers.elements) e;
      answer_after = p.answer_after ∙ ap (λ (x : CarriedOut). answer_row x.refusal x.counts.placed) e;
    }

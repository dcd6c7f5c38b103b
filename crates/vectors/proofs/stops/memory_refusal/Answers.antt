use Rattle.std.proofs.Common.{◌≡◌, ◌<◌, ◌≤◌, ℕ, true, false, zero-le, sym, ◌∙◌, ap, rules, arith}
use Rattle.std.proofs.lemmas.Iterator.{first_from_Range}
use Rattle.std.specs.Option.{MatchOption}
use borrow.Author.Tests.{tests}
use Rattle.refusals.specs.Refusals.{outside_memory, stop_at}
use Rattle.vectors.specs.Refusals.{outside}
use Rattle.vectors.proofs.Laws.Refusals.{memory_clear, memory_stop, memory_passes}
use Rattle.vectors.proofs.stops.memory_refusal.Goals.{After-find}
use Rattle.vectors.proofs.stops.memory_refusal.Goals as goal

pub returns-then-last_inside : goal.returns-then-last_inside
returns-then-last_inside c = c.stop_at.ensures ∙ sym (memory_clear _ _ (sym c.last_inside.ensures ∙ c.if-last_inside.true))

-- what is found is the first element outside
found : (c : After-find) → MatchOption c.find.result ((k : ℕ) → 0 ≤ k → k < c.elements_of.result → outside c.args.v c.args.memory k ≡ false)
    (λ e. (0 ≤ e) × (e < c.elements_of.result) × (outside c.args.v c.args.memory e ≡ true) × ((k : ℕ) → 0 ≤ k → k < e → outside c.args.v c.args.memory k ≡ false))
found c =
    first_from_Range _ _ _ c.find.result (λ e. outside c.args.v c.args.memory e ≡ true) (λ e. outside c.args.v c.args.memory e ≡ false) c.find.ensures.ran
    (λ x q k. search (rules, tests)) (λ x q k. search (rules, tests))

pub returns-in-Some : goal.returns-in-Some
returns-in-Some c =
    let a = c.args in
    let f = rw c.in-Some.is at (found ((goal.at.returns-in-Some c).After-find)) in
    c.stop_at-in-Some.ensures
    ∙ ap (stop_at outside_memory) c.from.ensures
    ∙ sym (memory_stop a.v a.memory c.in-Some.e (omega (arith, f.1)) f.2 (λ k l. f.3 k zero-le l))

pub returns-in-None : goal.returns-in-None
returns-in-None c =
    let a = c.args in
    let f = rw c.in-None.is at (found ((goal.at.returns-in-None c).After-find)) in
    c.stop_at-in-None.ensures ∙ sym (memory_passes a.v a.memory (λ k l. f k zero-le (omega arith)))

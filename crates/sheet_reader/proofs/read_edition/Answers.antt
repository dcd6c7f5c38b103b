use mathlib.Core.Path.{refl, sym, ◌∙◌}
use native.Mathlib.Omega.{arith}
use Rattle.sheet_reader.specs.Laws.Taken.{edition_taken}
use Rattle.sheet_reader.proofs.read_edition.Goals as goal

pub returns-then-number-gt0 : goal.returns-then-number-gt0
returns-then-number-gt0 c = record {
  number_value = c.edition_refusal-number.ensures;
  given_value = λ z. absurd (omega (arith, c.if-number-gt0.true, z));
}

pub bounds-s-start : goal.bounds-s-start
bounds-s-start c =
    let t = edition_taken _ _ _ _ (sym c.edition_refusal-number.ensures ∙ omega (arith, c.if-number-gt0.false)) in
    omega (arith, t.one)

pub returns : goal.returns
returns c = record {
  number_value = c.edition_refusal-number.ensures;
  given_value = λ z. refl;
}

use mathlib.Core.Path.{refl}
use native.Mathlib.Omega.{arith}
use borrow.Author.Tests.{ne_eqb}
use Rattle.numbers.specs.Choice.{pick}
use Rattle.numbers.specs.Laws.Choice.{ways, taken, left}
use Rattle.sheet_reader.specs.Reading.{field_refusal}
use Rattle.sheet_reader.specs.Parts.{more_given, more_parts}
use Rattle.sheet_reader.proofs.read_field.Goals as goal

pub returns-in-1 : goal.returns-in-1
unfolding field_refusal more_given more_parts pick
returns-in-1 c =
    let e = c.read_edition.ensures in
    let k = c.in-1.is in
    record {
      number_value = rw k e.number_value;
      given_value = λ z. (rw k (e.given_value z), rw k refl);
    }

pub returns-in-16 : goal.returns-in-16
unfolding field_refusal more_given more_parts pick
returns-in-16 c =
    let e = c.read_layout.ensures in
    let k = c.in-16.is in
    record {
      number_value = rw k e.number_value;
      given_value = λ z. (rw k (e.given_value z).0, rw k (e.given_value z).1);
    }

pub returns-in-17 : goal.returns-in-17
unfolding field_refusal more_given more_parts pick
returns-in-17 c =
    let e = c.read_view.ensures in
    let k = c.in-17.is in
    record {
      number_value = rw k e.number_value;
      given_value = λ z. (rw k (e.given_value z).0, rw k (e.given_value z).1);
    }

pub returns-in-32-to-38 : goal.returns-in-32-to-38
unfolding field_refusal more_given more_parts
returns-in-32-to-38 c =
    let e = c.read_step.ensures in record {
      number_value = left _ (ne_eqb c.args.tag 1 (omega arith)) (left _ (ne_eqb c.args.tag 16 (omega arith)) (left _ (ne_eqb c.args.tag 17 (omega arith)) (left _ (search ways) (taken _ (search ways) e.number_value))));
      given_value = λ z. (
        left _ (ne_eqb c.args.tag 1 (omega arith)) (left _ (ne_eqb c.args.tag 16 (omega arith)) (left _ (ne_eqb c.args.tag 17 (omega arith)) (e.given_value z).0)),
        left _ (ne_eqb c.args.tag 1 (omega arith)) (left _ (ne_eqb c.args.tag 16 (omega arith)) (left _ (ne_eqb c.args.tag 17 (omega arith)) (e.given_value z).1)),
      );
    }

pub returns-in_default : goal.returns-in_default
unfolding field_refusal
returns-in_default c =
    record {
      number_value = left _ (ne_eqb c.args.tag 1 (omega arith)) (left _ (ne_eqb c.args.tag 16 (omega arith)) (left _ (ne_eqb c.args.tag 17 (omega arith)) (taken _ (search ways) refl)));
      given_value = λ z. absurd (omega (arith, z));
    }

pub returns-in_default-2 : goal.returns-in_default-2
unfolding field_refusal
returns-in_default-2 c =
    record {
      number_value = left _ (ne_eqb c.args.tag 1 (omega arith)) (left _ (ne_eqb c.args.tag 16 (omega arith)) (left _ (ne_eqb c.args.tag 17 (omega arith)) (left _ (search ways) (left _ (search ways) refl))));
      given_value = λ z. absurd (omega (arith, z));
    }

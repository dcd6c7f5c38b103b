use native.Mathlib.Nat.{add-zero}
use native.Mathlib.Omega.{arith}
use Rattle.accesses.proofs.RowLaws.{went_past, row_less}
use Rattle.accesses.proofs.rows.survey_at.Goals as goal

pub survey_outside-low-requires : goal.survey_outside-low-requires
survey_outside-low-requires c =
    let m = c.requires.shared in
    record {
      shared = (m.0, m.1, row_less _ m.2 (omega arith), omega arith, m.4, λ i g h. m.3.below i (omega arith));
      passed = rw (add-zero c.args.k) c.requires.passed;
    }

pub returns-then-low-ne0 : goal.returns-then-low-ne0
returns-then-low-ne0 c = went_past _ c.survey_outside-low.ensures c.if-low-ne0.true

pub survey_inside-middle-requires : goal.survey_inside-middle-requires
survey_inside-middle-requires c =
    let m = c.requires.shared in
    record {
      shared = (m.0, m.1, row_less _ m.2 (omega arith), m.3, omega (arith, m.3.starts), omega arith, λ h. omega arith);
      passed = c.survey_outside-low.ensures.passed c.if-low-ne0.false;
    }

pub returns-then-middle-ne0 : goal.returns-then-middle-ne0
returns-then-middle-ne0 c = went_past _ c.survey_inside-middle.ensures c.if-middle-ne0.true

pub survey_outside-requires : goal.survey_outside-requires
survey_outside-requires c =
    let m = c.requires.shared in
    record {
      shared = (m.0, m.1, m.2, omega arith, m.4, λ i g h. m.3.above i (omega arith));
      passed = c.survey_inside-middle.ensures.passed c.if-middle-ne0.false;
    }

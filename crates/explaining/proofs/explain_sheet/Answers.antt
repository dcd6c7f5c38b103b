use Prim.Native.Nat.{ℕ}
use Rattle.sheet_reader.specs.Parts.{sheet_of}
use Rattle.checking.specs.Laws.Met.{all_steps}
use Rattle.accepted.specs.Laws.Clear.{met_clear, met_gives}
use Rattle.accepted.specs.Laws.Elements.{at_step_lem}
use Rattle.explaining.specs.Elements.{explained}
use native.Mathlib.Omega.{arith}
use Rattle.explaining.proofs.explain_sheet.Goals as goal

pub explain_access-requires : goal.explain_access-requires
explain_access-requires c =
    let s = c in
    met_clear s.requires.0 c.if-given-step.false c.turn_at-turn.ensures s.requires.1 c.types_at-types.ensures.1

pub returns : goal.returns
returns c =
    let s = c in
    let a = s.args in
    let h = c.if-given-step.false in
    let past = at_step_lem (λ (n : ℕ). explained) (sheet_of a.s.now) a.memory a.step (omega (arith, h, all_steps s.requires.0)) in
    rw (past, ← c.types_at-types.ensures.0, met_gives s.requires.0 h c.turn_at-turn.ensures (λ (n : ℕ). explained)) c.explain_access.ensures

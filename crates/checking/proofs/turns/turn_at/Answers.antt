use mathlib.Core.Path.{ap, ◌∙◌}
use Rattle.sheet_reader.specs.Parts.{sheet_of}
use Rattle.sheet_parts.specs.Laws.{outlined_within}
use Rattle.checking.specs.Turns.{step_access}
use Rattle.checking.specs.Laws.Turns.{within_step}
use Rattle.checking.proofs.turns.turn_at.Goals as goal

pub step_access-access-requires : goal.step_access-access-requires
step_access-access-requires c =
    let s = c in
    let o = s.requires.0 in
    let sh = sheet_of s.args.s.now in
    ((_, o), (sh.edition, rw c.step_in-step.ensures (within_step sh (outlined_within o) s.args.k (rw o.given at s.requires.1))))

pub returns : goal.returns
returns c =
    let a = c.args in
    record { step = c.step_in-step.ensures; access = c.step_access-access.ensures ∙ ap (step_access (sheet_of a.s.now).tensors a.types a.memory) c.step_in-step.ensures }

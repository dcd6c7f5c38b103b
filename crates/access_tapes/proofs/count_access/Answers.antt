use mathlib.Core.Path.{◌≡◌, ap, ◌∙◌}
use lib.ListN.{length}
use Rattle.addressing.specs.Rules.{elements_of, low_bits}
use Rattle.transfers.specs.Transfers.{outcome_of}
use Rattle.runs.specs.Runs.{runs}
use Rattle.access_tapes.proofs.Laws.{runs_few, told_runs}
use native.Mathlib.Omega.{arith}
use Rattle.access_tapes.proofs.count_access.Goals as goal

pub returns : goal.returns
returns c =
    let a = c.args.access in
    let e : c.count_runs.result ≡ length (runs (outcome_of a) (elements_of a)) =
    c.count_runs.ensures (low_bits a) ∙ ap length (told_runs a c.args.entries.now c.requires.1) in
    (e, omega (arith, e, runs_few (outcome_of a) (elements_of a), c.requires.0))

-- The runs of a load or a store, as document 01 describes them.
use Rattle.std.specs.Prelude.{List}
use Rattle.addressing.specs.Rules.{elements_of}
use Rattle.addressing.specs.declared.Access.{Access}
use Rattle.transfers.specs.Transfers.{outcome_of}
use Rattle.runs.specs.Even.{Stretch, Given}

-- the list of runs that document 01 gives for a load or a store
abbrev pub AccessGiven : Access → List Stretch → Type 0
AccessGiven a rs = Given (outcome_of a) (elements_of a) rs

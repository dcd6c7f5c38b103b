-- Lists of runs that document 01 gives: strip 4's, and that of eight elements at one byte.
use Rattle.std.specs.Prelude.{ℕ, ◌≡◌, refl, List, [], ◌∷◌, pos, negsuc, get_or}
use Rattle.std.proofs.Common.{◌∙◌}
use Rattle.numbers.specs.Choice.{pick}
use Rattle.numbers.specs.Lists.{each}
use Rattle.outcomes.specs.declared.Outcome.{Outcome}
use Rattle.outcomes.specs.declared.Outcome.TheVariants.{Placed}
use Rattle.signed.specs.Numbers.{difference}
use Rattle.runs.specs.Runs.{meet_byte, meet_fill, next, held, runs}
use Rattle.runs.specs.Even.{Stretch, bytes, Given}
use Rattle.runs.proofs.Theorems.Unique.{stretches, runs_given, given_once}

-- the elements of a load at the bytes of a list
abbrev pub loaded : List ℕ → ℕ → Outcome
loaded bs k = Placed (get_or bs k 0)

abbrev mirrored : ℕ → Outcome
mirrored = loaded (2 ∷ 1 ∷ 0 ∷ 1 ∷ 2 ∷ 3 ∷ 2 ∷ 1 ∷ [])

mirrored_runs : stretches (runs mirrored 8) ≡ bytes 0 3 2 (negsuc 0) ∷ bytes 3 3 1 (pos 1) ∷ bytes 6 2 2 (negsuc 0) ∷ []
unfolding runs held next meet_byte meet_fill pick each difference
mirrored_runs = refl

pub strip4 : (rs : List Stretch) → Given mirrored 8 rs → rs ≡ bytes 0 3 2 (negsuc 0) ∷ bytes 3 3 1 (pos 1) ∷ bytes 6 2 2 (negsuc 0) ∷ []
strip4 rs g = given_once mirrored 8 rs (stretches (runs mirrored 8)) g (runs_given mirrored 8) ∙ mirrored_runs

abbrev still : ℕ → Outcome
still = loaded []

still_runs : stretches (runs still 8) ≡ bytes 0 8 0 (pos 0) ∷ []
unfolding runs held next meet_byte meet_fill pick each difference
still_runs = refl

-- a load with stride 0: its step is 0 and no other
pub one_byte : (rs : List Stretch) → Given still 8 rs → rs ≡ bytes 0 8 0 (pos 0) ∷ []
one_byte rs g = given_once still 8 rs (stretches (runs still 8)) g (runs_given still 8) ∙ still_runs

-- Replaying a trace against a sheet and a memory's length, without a memory.
use Rattle.std.specs.Prelude.{ℕ, List, eqb, length}
use Rattle.numbers.specs.Choice.{pick}
use Rattle.refusals.specs.Refusals.{not_refused}
use Rattle.refusals.specs.declared.Refusal.{Refusal}
use Rattle.sheet_reader.specs.Reading.{read_sheet}
use Rattle.checking.specs.Checking.{checked_sheet}
use Rattle.traces.specs.Reading.{read_trace}
use Rattle.traces.specs.declared.Event.{Event}
use Rattle.expected.specs.Expected.{expected}
use Rattle.replaying.specs.Verdicts.{verdict_of}
use Rattle.replaying.specs.declared.Verdict.{Verdict}
use Rattle.replaying.specs.declared.Verdict.TheVariants.{Differs}
use Rattle.replaying.specs.declared.ReplayAnswer.{ReplayAnswer}

abbrev pub replay_answer : Refusal → Verdict → ℕ → ReplayAnswer
replay_answer r verdict count = record { refusal = r; verdict = verdict; count = count }

abbrev pub replay_refused : Refusal → ReplayAnswer
replay_refused r = replay_answer r (Differs 0) 0

-- the verdict on a list of events, and how many the sheet's loads and stores have
abbrev pub compared : List Event → List Event → ReplayAnswer
compared wanted said = replay_answer not_refused (verdict_of wanted said) (length wanted)

-- the sheet's refusals first, as the check gives them, then the trace's, which is judged whole before it is compared
unfoldable pub replayed : List ℕ → ℕ → List ℕ → ReplayAnswer
replayed s len t =
    pick (eqb (checked_sheet s len).refusal.number 0)
    (pick (eqb (read_trace t).refusal.number 0)
    (compared (expected (read_sheet s).sheet len) (read_trace t).events)
    (replay_refused (read_trace t).refusal))
    (replay_refused (checked_sheet s len).refusal)

-- The events of an access: those that its survey or its check lists, and how many there are.
use Rattle.std.specs.Prelude.{ℕ, ◌<◌, ◌≤◌, ◌≡◌, List, [], ◌∷◌, eqb, ltb, length, get_or}
use Rattle.std.proofs.Common.{sym, ap, ◌∙◌, arith}
use Rattle.numbers.specs.Choice.{pick}
use Rattle.numbers.specs.Laws.Choice.{by_test}
use Rattle.numbers.specs.Laws.Joins.{each_same}
use Rattle.sheet.specs.Sizes.{matrix_places}
use Rattle.sheet.specs.declared.Tensors.{Tensors}
use Rattle.sheet.specs.declared.Step.{Step}
use Rattle.registers.specs.declared.MatrixType.{MatrixType}
use Rattle.addressing.specs.Rules.{elements_of, low_bits}
use Rattle.addressing.specs.declared.Access.{Access}
use Rattle.accesses.proofs.Laws.Surveys.{entry_cases}
use Rattle.clashes.specs.Entries.{filled_entry}
use Rattle.accesses.specs.Entries.{Near, entry_outcome, Told}
use Rattle.transfers.specs.Transfers.{outcome_of}
use Rattle.checking.specs.Turns.{step_access, Turned}
use Rattle.accepted.specs.Accepted.{entries_outcome, Listed}
use Rattle.accepted.specs.Elements.{of_access}
use Rattle.accepted.specs.Laws.Clear.{of_step_lem}
use Rattle.accepted.specs.Laws.Elements.{access_count, step_few}
use Rattle.accepted.specs.declared.Outcomes.{Outcomes}
use Rattle.traces.specs.declared.Event.{Event}
use Rattle.expected.specs.Expected.{event_of, outcome_event, access_events}
use Rattle.expected.specs.Listed.{listed_events}

-- the byte of an entry is one of a memory's
pub entry_near : (fill x : ℕ) → Near (entry_outcome fill x)
entry_near fill x = entry_cases Near fill tt (λ b h. h) tt tt x

-- an event for each element
pub events_count : (k : ℕ) (a : Access) → elements_of a ≡ length (access_events k a)
events_count k a = sym (access_count (outcome_event k) a)

-- of a step at types within Sizes there are few
pub turned_few : {edition : ℕ} {tensors : Tensors} {ts : List MatrixType} {len : ℕ} {step : Step} {a : Access} → Turned edition tensors ts len step a
    → elements_of a ≤ matrix_places
turned_few {tensors = tensors} {ts = ts} {len = len} {step = step} t =
    rw (t.access, events_count 0 (step_access tensors ts len step), ← of_step_lem outcome_event tensors ts len 0 step)
    (step_few outcome_event tensors ts len 0 step t.sized)

-- the bits of a filled element do not show
same_event_lem : (k e f g x : ℕ) → event_of k e (entry_outcome f x) ≡ event_of k e (entry_outcome g x)
unfolding entry_outcome pick
same_event_lem k e f g x =
    by_test (eqb x 0) (λ a. rw a)
    (λ a. by_test (ltb x filled_entry) (λ b. rw (a, b)) (λ b. by_test (eqb x filled_entry) (λ c. rw (a, b, c)) (λ c. rw (a, b, c))))

-- entries that stand for an access's outcomes, where filled elements take these bits
access_listed : (k : ℕ) (a : Access) (fill : ℕ) (entries : List ℕ) → ((e : ℕ) → e < elements_of a → entries_outcome entries fill e ≡ outcome_of a e)
    → listed_events k entries (elements_of a) ≡ access_events k a
unfolding listed_events of_access
access_listed k a fill entries same =
    each_same (elements_of a) _ _
    (λ e h. ap (λ (x : Event). x ∷ []) (same_event_lem k e 0 fill (get_or entries e 0) ∙ ap (event_of k e) (same e h)))

-- what a survey lists
pub surveyed_events : (k : ℕ) (a : Access) {entries : List ℕ} {o : Outcomes} → Listed a entries o → listed_events k entries o.count ≡ access_events k a
surveyed_events k a {entries} {o} l = rw l.count (access_listed k a o.fill entries l.each)

-- what the check of an accepted step leaves
pub told_events : (k : ℕ) (a : Access) (entries : List ℕ) {n : ℕ} → n ≡ length (access_events k a) → Told a entries → listed_events k entries n ≡ access_events k a
told_events k a entries e told = rw (e ∙ sym (events_count k a)) (access_listed k a (low_bits a) entries told)

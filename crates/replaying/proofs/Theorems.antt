-- What the verdict of a replay says of the two lists, whose refusals it gives, and that a written trace replays.
use Rattle.std.specs.Prelude.{ℕ, suc, ◌<◌, ◌≡◌, refl, List, eqb, length, take}
use Rattle.std.proofs.Common.{sym, ap, ◌∙◌, arith, eqb-true, eq-eqb, take-take}
use Rattle.std.proofs.lemmas.Bool.{eqb-false}
use Rattle.numbers.specs.Choice.{pick}
use Rattle.numbers.specs.Laws.Choice.{pick_case, by_test, by_order}
use Rattle.refusals.specs.Refusals.{not_refused}
use Rattle.sheet_reader.specs.Reading.{read_sheet}
use Rattle.checking.specs.Checking.{checked_sheet}
use Rattle.carrying.specs.Carrying.{carried}
use Rattle.traces.specs.Reading.{read_trace}
use Rattle.traces.proofs.Laws.Refusals.{refusal_none}
use Rattle.traces.specs.declared.Event.{Event}
use Rattle.expected.specs.Expected.{expected}
use Rattle.tracing.specs.Tracing.{traced, traced_room}
use Rattle.tracing.specs.Theorems.{is_traced, traced_reads}
use Rattle.replaying.specs.Verdicts.{verdict_of, FirstDifference}
use Rattle.replaying.specs.Replaying.{replay_answer, replayed}
use Rattle.replaying.proofs.Laws.Verdicts.{agrees_equal, equal_agrees, differs_first}
use Rattle.replaying.specs.declared.ReplayAnswer.{ReplayAnswer}
use Rattle.replaying.specs.declared.Verdict.TheVariants.{Agrees, Differs}

-- Of a replay that is not refused:
module _ (s : List ℕ) (len : ℕ) (t : List ℕ) (h : (replayed s len t).refusal.number ≡ 0) where
  -- its verdict is that of the two lists
  of_lists : (replayed s len t).verdict ≡ verdict_of (expected (read_sheet s).sheet len) (read_trace t).events
  unfolding replayed
  of_lists =
      pick_case P (eqb (checked_sheet s len).refusal.number 0) _ _
      (λ a. pick_case P (eqb (read_trace t).refusal.number 0) _ _ (λ b g. refl) (λ b g. absurd (eqb-false (read_trace t).refusal.number 0 b g)))
      (λ a g. absurd (eqb-false (checked_sheet s len).refusal.number 0 a g)) h
    where
      P : ReplayAnswer → Type 0
      P r = r.refusal.number ≡ 0 → r.verdict ≡ verdict_of (expected (read_sheet s).sheet len) (read_trace t).events

  -- it agrees exactly when the trace is the complete list of the loads' and stores' outcomes ..
  pub replay_agrees : (replayed s len t).verdict ≡ Agrees → expected (read_sheet s).sheet len ≡ (read_trace t).events
  replay_agrees e = agrees_equal (expected (read_sheet s).sheet len) (read_trace t).events (sym of_lists ∙ e)

  pub replay_complete : expected (read_sheet s).sheet len ≡ (read_trace t).events → (replayed s len t).verdict ≡ Agrees
  replay_complete e = of_lists ∙ equal_agrees (expected (read_sheet s).sheet len) (read_trace t).events e

  -- .. and else gives the first index at which the lists differ.
  pub replay_differs : (i : ℕ) → (replayed s len t).verdict ≡ Differs i → FirstDifference i (expected (read_sheet s).sheet len) (read_trace t).events
  replay_differs i e = differs_first (expected (read_sheet s).sheet len) (read_trace t).events i (sym of_lists ∙ e)

-- No other index is the first.
module _ {xs ys : List Event} where
  not_before : {i j : ℕ} → i < j → FirstDifference i xs ys → FirstDifference j xs ys → ⊥
  not_before {i} {j} l f g = f.other (sym (take-take (suc i) j xs l) ∙ ap (take (suc i)) g.same ∙ take-take (suc i) j ys l)

  pub first_unique : (i j : ℕ) → FirstDifference i xs ys → FirstDifference j xs ys → i ≡ j
  first_unique i j f g =
      by_order i j (λ l. absurd (not_before l f g)) (λ l. by_order j i (λ m. absurd (not_before m g f)) (λ m. omega arith))

-- A sheet that carrying out refuses is refused alike, whatever the trace; one that it accepts is refused as its trace is.
module _ (s memory t : List ℕ) where
  abbrev number : ℕ
  number = (checked_sheet s (length memory)).refusal.number

  pub refused_alike : 0 < (carried s memory).refusal.number → (replayed s (length memory) t).refusal ≡ (carried s memory).refusal
  unfolding replayed carried pick
  refused_alike h = by_test (eqb number 0) (λ e. absurd (let z : 0 < 0 = rw e at h in omega arith)) (λ e. rw e refl)

  pub accepted_alike : (carried s memory).refusal.number ≡ 0 → (replayed s (length memory) t).refusal ≡ (read_trace t).refusal
  unfolding replayed carried pick
  accepted_alike h =
      by_test (eqb number 0)
      (λ e. rw e (by_test (eqb (read_trace t).refusal.number 0) (λ f. rw f (sym (refusal_none t (eqb-true _ _ f)))) (λ f. rw f refl)))
      (λ e. absurd (eqb-false number 0 e (rw e at h)))

-- What is written into a room replays: it agrees, and nothing is missing.
pub traced_replays : (s : List ℕ) (len : ℕ) (out : List ℕ) → (traced s len (length out)).refusal.number ≡ 0
    → replayed s len (take (traced s len (length out)).bytes (traced_room s len out)) ≡ replay_answer not_refused Agrees (length (expected (read_sheet s).sheet len))
unfolding replayed pick
traced_replays s len out h =
    let events = expected (read_sheet s).sheet len in
    rw (eq-eqb (checked_sheet s len).refusal.number 0 (is_traced s len out h).accepted, traced_reads s len out h, equal_agrees events events refl)

-- A check that goes from step to step, and the answer of a replay by what was found.
pub mod Verdicts
pub mod Matching
use Prim.Native.Nat.{ℕ, ◌/◌, ◌-◌, ◌<◌}
use mathlib.Core.Path.{◌≡◌, refl, sym, ap, ◌∙◌}
use mathlib.Core.List.{List}
use native.Mathlib.Omega.{arith}
use borrow.Author.Tests.{eq-eqb, ne_eqb}
use lib.ListN.{length}
use Rattle.numbers.specs.Choice.{pick}
use Rattle.refusals.specs.Refusals.{not_refused}
use Rattle.refusals.specs.declared.Refusal.{Refusal}
use Rattle.sheet_reader.specs.Reading.{read_sheet}
use Rattle.sheet.specs.declared.Sheet.{Sheet}
use Rattle.registers.specs.Sized.{Sized}
use Rattle.registers.specs.declared.MatrixType.{MatrixType}
use Rattle.checking.specs.Checking.{checked_from, checked, checked_sheet}
use Rattle.traces.specs.Events.{event_length}
use Rattle.traces.specs.Reading.{read_trace}
use Rattle.traces.specs.Numbered.{events_in}
use Rattle.traces.proofs.Laws.Numbered.{accepted_events, events_count}
use Rattle.expected.specs.Expected.{expected}
use Rattle.replaying.specs.Verdicts.{verdict_at}
use Rattle.replaying.specs.Matching.{matched, match_all}
use Rattle.replaying.specs.Replaying.{replay_answer, replay_refused, replayed}
use Rattle.replaying.proofs.Laws.Matching.{match_is}
use Rattle.replaying.specs.declared.Matched.{Matched}

-- a check that has come to step k without a refusal
pub record Going (sh : Sheet) (len k : ℕ) (ts : List MatrixType) : Type 0 where
  pub sized : Sized ts
  pub counted : ℕ
  pub same : checked_from (sh.steps - k) sh len k ts counted ≡ checked sh len

module _ (s : List ℕ) (len : ℕ) (t : List ℕ) {q : Refusal} (is : q ≡ (checked_sheet s len).refusal) where
  pub sheet_refused : 0 < q.number → replay_refused q ≡ replayed s len t
  unfolding replayed pick
  sheet_refused n = rw (← is, ne_eqb q.number 0 (λ e. omega arith)) refl

  module _ (fine : q.number ≡ 0) {r : Refusal} (told : r ≡ (read_trace t).refusal) where
    pub trace_refused : 0 < r.number → replay_refused r ≡ replayed s len t
    unfolding replayed pick
    trace_refused n = rw (← is, eq-eqb q.number 0 fine, ← told, ne_eqb r.number 0 (λ e. omega arith)) refl

    -- the events of a trace that is not refused stand one field after the other
    pub both_compared : r.number ≡ 0 → {m : Matched} → m ≡ match_all (events_in t) (matched 0 0) (expected (read_sheet s).sheet len)
        → replay_answer not_refused (verdict_at m.index m.count (length t / event_length)) m.count ≡ replayed s len t
    unfolding replayed pick
    both_compared z e =
        let events = accepted_events t (ap (λ (x : Refusal). x.number) (sym told) ∙ z) in
        rw (← is, eq-eqb q.number 0 fine, ← told, eq-eqb r.number 0 z, events, e, match_is (events_in t) (expected (read_sheet s).sheet len), ← events_count t) refl

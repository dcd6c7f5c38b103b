use Prim.Native.Nat.{◌<◌}
use mathlib.Core.Path.{◌≡◌, sym, ap, ◌∙◌}
use Rattle.refusals.specs.declared.Refusal.{Refusal}
use Rattle.sheet.specs.declared.Sheet.{Sheet}
use Rattle.checking.specs.Checking.{admitted, checked}
use Rattle.checking.specs.Laws.Readable.{admitted_refused, is_admitted}
use Rattle.checking.specs.declared.CheckAnswer.{CheckAnswer}
use Rattle.replaying.proofs.Laws.{sheet_refused, trace_refused, both_compared}
use native.Mathlib.Omega.{arith}
use Rattle.replaying.proofs.replay.Goals as goal

abbrev refusal : CheckAnswer → Refusal
refusal x = x.refusal

pub returns-then-unread-gt0 : goal.returns-then-unread-gt0
returns-then-unread-gt0 c =
    let a = c.args in
    let s = a.sheet.now in
    let e = c.admit-read.ensures.refusal_value in
    let n : 0 < (admitted s a.memory_len).refusal.number = rw e at c.if-unread-gt0.true in
    let is = e ∙ sym (ap refusal (admitted_refused s a.memory_len n)) in
    c.replay_refused.ensures ∙ sheet_refused s a.memory_len a.trace.now is c.if-unread-gt0.true

pub match_sheet-found-requires : goal.match_sheet-found-requires
match_sheet-found-requires c =
    let a = c.args in
    let s = a.sheet.now in
    let j = c.admit-read in
    let zero : j.result.refusal.number ≡ 0 = omega (arith, c.if-unread-gt0.false) in
    let r = is_admitted s a.memory_len (rw j.ensures.refusal_value at zero) in
    (j.ensures.outlined zero, r.few)

pub returns-then-refused-gt0 : goal.returns-then-refused-gt0
returns-then-refused-gt0 c =
    let a = c.args in
    let s = a.sheet.now in
    let j = c.admit-read in
    let zero : j.result.refusal.number ≡ 0 = omega (arith, c.if-unread-gt0.false) in
    let r = is_admitted s a.memory_len (rw j.ensures.refusal_value at zero) in
    let found = c.match_sheet-found in
    let is = found.ensures.refusal_value ∙ sym (ap refusal (r.check ∙ ap (λ (x : Sheet). checked x a.memory_len) r.same)) in
    c.replay_refused-then-refused-gt0.ensures ∙ sheet_refused s a.memory_len a.trace.now is c.if-refused-gt0.true

pub returns-then-misread-gt0 : goal.returns-then-misread-gt0
returns-then-misread-gt0 c =
    let a = c.args in
    let s = a.sheet.now in
    let j = c.admit-read in
    let zero : j.result.refusal.number ≡ 0 = omega (arith, c.if-unread-gt0.false) in
    let r = is_admitted s a.memory_len (rw j.ensures.refusal_value at zero) in
    let found = c.match_sheet-found in
    let is = found.ensures.refusal_value ∙ sym (ap refusal (r.check ∙ ap (λ (x : Sheet). checked x a.memory_len) r.same)) in
    let fine : found.result.refusal.number ≡ 0 = omega (arith, c.if-refused-gt0.false) in
    c.replay_refused-then-misread-gt0.ensures ∙ trace_refused s a.memory_len a.trace.now is fine c.judge_trace-misread.ensures c.if-misread-gt0.true

pub returns : goal.returns
returns c =
    let a = c.args in
    let s = a.sheet.now in
    let j = c.admit-read in
    let zero : j.result.refusal.number ≡ 0 = omega (arith, c.if-unread-gt0.false) in
    let r = is_admitted s a.memory_len (rw j.ensures.refusal_value at zero) in
    let found = c.match_sheet-found in
    let is = found.ensures.refusal_value ∙ sym (ap refusal (r.check ∙ ap (λ (x : Sheet). checked x a.memory_len) r.same)) in
    let fine : found.result.refusal.number ≡ 0 = omega (arith, c.if-refused-gt0.false) in
    let told = c.judge_trace-misread in
    let read : told.result.number ≡ 0 = omega (arith, c.if-misread-gt0.false) in
    rw (c.not_refused.ensures, c.verdict_at.ensures) (both_compared s a.memory_len a.trace.now is fine told.ensures read (found.ensures.events_value fine))

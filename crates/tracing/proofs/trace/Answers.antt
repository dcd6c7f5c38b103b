use Prim.Native.Nat.{ℕ, ◌*◌, ◌≤◌}
use mathlib.Core.Path.{◌≡◌, sym, ap, ◌∙◌}
use lib.ListN.{length}
use Rattle.checking.specs.declared.CheckAnswer.{CheckAnswer}
use Rattle.checking.specs.Laws.Readable.{sheet_readable}
use Rattle.traces.specs.Events.{event_length}
use Rattle.tracing.specs.Tracing.{traced_length}
use Rattle.tracing.proofs.Laws.{trace_answer_lem, trace_room}
use native.Mathlib.Omega.{arith}
use Rattle.tracing.proofs.trace.Goals as goal

pub count_trace-bytes-requires : goal.count_trace-bytes-requires
count_trace-bytes-requires c =
    let a = c.args in
    let s = a.sheet.now in
    let j = c.judge-judged in
    let e = j.ensures in
    let fine : j.result.answer.refusal.number ≡ 0 = omega (arith, c.if-refused-gt0.false) in
    let r = sheet_readable s a.memory_len (ap (λ (x : CheckAnswer). x.refusal.number) (sym e.answer_value) ∙ fine) in
    (e.outlined fine, r.few, r.clear)

pub write_trace-requires : goal.write_trace-requires
write_trace-requires c =
    let a = c.args in
    let s = a.sheet.now in
    let j = c.judge-judged in
    let e = j.ensures in
    let fine : j.result.answer.refusal.number ≡ 0 = omega (arith, c.if-refused-gt0.false) in
    let r = sheet_readable s a.memory_len (ap (λ (x : CheckAnswer). x.refusal.number) (sym e.answer_value) ∙ fine) in
    let room : traced_length s a.memory_len ≤ length a.out.now = omega (arith, c.count_trace-bytes.ensures.0, c.if-out-bytes.false) in
    record {
      outlined = (e.outlined fine, r.few, r.clear);
      event_length_in_bounds = room;
    }

pub returns : goal.returns
returns c =
    let a = c.args in
    let s = a.sheet.now in
    let j = c.judge-judged in
    let e = j.ensures in
    let fine : j.result.answer.refusal.number ≡ 0 = omega (arith, c.if-refused-gt0.false) in
    let bytes : c.count_trace-bytes.result * event_length ≡ traced_length s a.memory_len = ap (λ (x : ℕ). x * event_length) c.count_trace-bytes.ensures.0 in
    let room : traced_length s a.memory_len ≤ length a.out.now = omega (arith, bytes, c.if-out-bytes.false) in record {
      value = rw (c.not_refused.ensures, bytes) (trace_answer_lem s a.memory_len e.answer_value fine (length a.out.now) room);
      out_after = c.write_trace.ensures ∙ trace_room s a.memory_len e.answer_value fine a.out.now room;
    }

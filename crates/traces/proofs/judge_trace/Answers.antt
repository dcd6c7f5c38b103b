use Prim.Native.Nat.{ℕ, suc, ◌-◌, ◌<◌}
use mathlib.Core.Path.{◌≡◌, refl, sym, ap, ◌∙◌}
use mathlib.Core.List.{List}
use native.Mathlib.Omega.{arith}
use lib.ListN.{length}
use borrow.Author.Rules.{rules}
use Rattle.fields.specs.Fields.{field_at}
use Rattle.fields.specs.declared.Cursor.{Cursor}
use Rattle.fields.specs.declared.Field.TheVariants.{Whole}
use Rattle.fields.specs.Laws.Bounds.{FieldIn, field_in}
use Rattle.traces.specs.Reading.{Trace, read_from, read_trace}
use Rattle.traces.proofs.Laws.Turns.{field_taken, turn_on, turn_over, turn_end, turn_short, turn_refused, turn_next}
use Rattle.traces.specs.declared.Previous.{Previous}
use Rattle.traces.proofs.judge_trace.Invariants.{Left}
use Rattle.traces.proofs.judge_trace.Goals as goal
use Rattle.traces.proofs.judge_trace.Goals.{In-Whole}

-- reading that is over gives the whole's refusal
over_now : (s : List ℕ) (at : ℕ) (previous : Previous) (l : Left s at previous) {t : Trace} → read_from l.1.0 s at previous ≡ t → t.refusal ≡ (read_trace s).refusal
over_now s at previous l e = sym (ap (λ (t : Trace). t.refusal) e) ∙ l.1.1.1

-- the field that a turn takes: what it is, and where it lies
module _ (c : In-Whole) where
  abbrev s : List ℕ
  s = c.args.s.now

  abbrev here : ℕ
  here = c.loop-c.c.at

  abbrev tag : ℕ
  tag = c.in-Whole.tag

  abbrev start : ℕ
  start = c.in-Whole.start

  abbrev len : ℕ
  len = c.in-Whole.len

  abbrev next : Cursor
  next = c.in-Whole.next

  the_field : field_at s here ≡ Whole tag start len next
  the_field = sym c.field.ensures ∙ c.in-Whole.is

  its_place : FieldIn s here start len next
  its_place = field_in _ _ _ _ _ _ the_field

  inside : here < length s
  inside = c.loop-c-test.true

pub loop-c-init : goal.loop-c-init
unfolding read_trace
loop-c-init c =
    let l = length c.args.s.now in
    (search rules, (suc l, (omega arith, refl)))

pub returns-in_default : goal.returns-in_default
returns-in_default c =
    let i = c.loop-c in
    let short = sym c.field.ensures ∙ c.in_default.is in
    c.refusal_at.ensures
    ∙ over_now _ i.c.at i.previous i.invariant (turn_over _ _ _ i.invariant.1.0 (omega (arith, i.invariant)) (turn_short _ _ _ c.loop-c-test.true short))

pub field_refusal-number-requires : goal.field_refusal-number-requires
field_refusal-number-requires c = (its_place c).within

pub returns-then-number-gt0 : goal.returns-then-number-gt0
returns-then-number-gt0 c =
    let k = (goal.at.returns-then-number-gt0 c).In-Whole in
    let i = c.loop-c in
    c.refusal_at-then-number-gt0.ensures
    ∙ over_now _ i.c.at i.previous i.invariant
    (turn_over _ _ _ i.invariant.1.0 (omega (arith, i.invariant)) (turn_refused _ _ _ (inside k) (the_field k) c.field_refusal-number.ensures c.if-number-gt0.true))

pub event_at-requires : goal.event_at-requires
event_at-requires c =
    let taken = field_taken _ _ _ _ _ (rw c.field_refusal-number.ensures at c.if-number-gt0.false) in
    omega (arith, (its_place (goal.at.event_at-requires c).In-Whole).within, taken.long)

pub loop-c-smaller : goal.loop-c-smaller
loop-c-smaller c =
    let k = (goal.at.loop-c-smaller c).In-Whole in
    omega (arith, its_place k, inside k)

pub loop-c-preserved : goal.loop-c-preserved
loop-c-preserved c =
    let k = (goal.at.loop-c-preserved c).In-Whole in
    let i = c.loop-c in
    let p = its_place k in
    let next = turn_next _ _ _ (inside k) (the_field k) c.field_refusal-number.ensures c.if-number-gt0.false c.event_at.ensures in (
      omega (arith, p),
      (
        i.invariant.1.0 - 1,
        (
          omega (arith, p, i.invariant),
          sym (ap (λ (t : Trace). t.refusal) (turn_on _ i.c.at i.previous i.invariant.1.0 (omega (arith, i.invariant)) next))
              ∙ i.invariant.1.1.1,
        ),
      ),
    )

pub returns : goal.returns
returns c =
    let i = c.loop-c in
    c.not_refused.ensures
    ∙ over_now _ i.c.at i.previous i.invariant (turn_over _ _ _ i.invariant.1.0 (omega (arith, i.invariant)) (turn_end _ _ _ c.loop-c-test.false))

use Prim.Native.Nat.{ℕ, ◌-◌}
use mathlib.Core.Path.{◌≡◌, sym, ◌∙◌}
use mathlib.Core.List.{List}
use native.Mathlib.Omega.{arith}
use Rattle.fields.specs.Fields.{field_at}
use Rattle.fields.specs.declared.Cursor.{Cursor}
use Rattle.fields.specs.declared.Field.TheVariants.{Whole}
use Rattle.fields.specs.Laws.Bounds.{FieldIn, field_in}
use Rattle.sheet_reader.specs.Laws.Outlining.{outlining_start, outlining_short, outlining_bare, outlining_end, outlining_refused, outlining_next, outline_refused}
use Rattle.sheet_reader.proofs.outline_sheet.Goals as goal
use Rattle.sheet_reader.proofs.outline_sheet.Goals.{In-Whole}

-- the field that a turn takes: what it is, and where it lies
module _ (c : In-Whole) where
  abbrev s : List ℕ
  s = c.args.s.now

  abbrev here : ℕ
  here = c.loop-c.c.at

  abbrev tag : ℕ
  tag = c.in-Whole.tag

  abbrev start : ℕ
  start = c.in-Whole.start

  abbrev len : ℕ
  len = c.in-Whole.len

  abbrev next : Cursor
  next = c.in-Whole.next

  the_field : field_at s here ≡ Whole tag start len next
  the_field = sym c.field.ensures ∙ c.in-Whole.is

  its_place : FieldIn s here start len next
  its_place = field_in _ _ _ _ _ _ the_field

pub loop-c-init : goal.loop-c-init
loop-c-init c = outlining_start _ _ _ c.requires c.nothing_given-given.ensures

pub field-requires : goal.field-requires
field-requires c = c.loop-c.invariant.inside

pub returns-in_default : goal.returns-in_default
returns-in_default c =
    let r =
    outline_refused _ _ _ _ c.refuse.ensures (omega arith)
    (outlining_short _ _ _ _ c.loop-c.invariant c.loop-c-test.true
    (sym c.field.ensures ∙ c.in_default.is)) in
    record { value = r.0; outlined = r.1 }

pub read_field-read-requires : goal.read_field-read-requires
read_field-read-requires c = (its_place (goal.at.read_field-read-requires c).In-Whole).within

pub returns-then-read-gt0 : goal.returns-then-read-gt0
returns-then-read-gt0 c =
    let k = (goal.at.returns-then-read-gt0 c).In-Whole in
    let r =
    outline_refused _ _ _ _ c.refuse-then-read-gt0.ensures c.if-read-gt0.true
    (outlining_refused _ _ _ _ k.loop-c.invariant k.loop-c-test.true (the_field k)
    c.read_field-read.ensures.number_value c.if-read-gt0.true) in
    record { value = r.0; outlined = r.1 }

pub loop-c-smaller : goal.loop-c-smaller
loop-c-smaller c =
    let k = (goal.at.loop-c-smaller c).In-Whole in
    omega (arith, its_place k, k.loop-c-test.true)

pub loop-c-preserved : goal.loop-c-preserved
loop-c-preserved c =
    let k = (goal.at.loop-c-preserved c).In-Whole in
    let e = c.read_field-read.ensures in
    let free : c.read_field-read.result.number ≡ 0 = omega (arith, c.if-read-gt0.false) in
    outlining_next _ _ _ _ k.loop-c.invariant k.loop-c-test.true (the_field k)
    e.number_value free (e.given_value free).0 (e.given_value free).1

pub returns-then-given-lt1 : goal.returns-then-given-lt1
returns-then-given-lt1 c =
    let r =
    outline_refused _ _ _ _ c.refuse-then-given-lt1.ensures (omega arith)
    (outlining_bare _ _ _ _ c.loop-c.invariant c.loop-c-test.false c.if-given-lt1.true) in
    record { value = r.0; outlined = r.1 }

pub returns : goal.returns
returns c =
    let o = c.loop-c in
    let e =
    outlining_end _ _ _ o.given o.invariant c.loop-c-test.false c.if-given-lt1.false
    {r = record { refusal = c.not_refused.result; given = o.given }} (rw c.not_refused.ensures) in
    record {
      value = e.0;
      outlined = λ z. e.1;
    }

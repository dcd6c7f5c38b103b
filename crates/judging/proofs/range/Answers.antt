use mathlib.Core.Path.{◌∙◌}
use Rattle.numbers.specs.Laws.Choice.{went}
use Rattle.sheet_reader.specs.Parts.{sheet_of}
use Rattle.sheet_parts.specs.Laws.{outlined_within}
use Rattle.registers.specs.Laws.Sized.{sized_empty}
use Rattle.judging.specs.Judging.{tape_record}
use Rattle.judging.specs.Laws.Named.{named_placed, named_ok, named_types}
use Rattle.judging.specs.Laws.Records.{decoded_sized}
use Rattle.judging.specs.Laws.Turns.{range_start, range_go, range_stop, range_end}
use Rattle.judging.proofs.range.Goals as goal

pub loop-k-init : goal.loop-k-init
loop-k-init c =
    let a = c.args in
    let e = c.empty_types-types.ensures in
    (rw e sized_empty, rw e (range_start a.records (sheet_of a.s.now) a.len (tape_record a.tape.now)))

pub decoded_ok-requires : goal.decoded_ok-requires
decoded_ok-requires c =
    let d = c.read_record-d in
    (named_placed c.requires.0 d.result c.step_named-named.ensures, c.loop-k.invariant.0, d.ensures.1)

pub returns-then-not-decoded_ok : goal.returns-then-not-decoded_ok
returns-then-not-decoded_ok c =
    let i = c.loop-k in
    let a = c.args in
    let d = c.read_record-d in
    let ok = c.decoded_ok.ensures ∙ named_ok c.requires.0 d.result c.step_named-named.ensures i.types a.len in
    c.refusal_at.ensures
    ∙ range_stop a.records (sheet_of a.s.now) a.len (tape_record a.tape.now) i.k i.types c.loop-k-test.true d.ensures.0 (went ok c.if-not-decoded_ok.true)
    ∙ i.invariant.1

pub decoded_types-after-requires : goal.decoded_types-after-requires
decoded_types-after-requires c =
    let d = c.read_record-d in (
      d.ensures.1,
      (
        c.args.given.edition,
        c.args.given.steps,
        c.args.len,
        named_placed c.requires.0 d.result c.step_named-named.ensures,
        went c.decoded_ok.ensures c.if-not-decoded_ok.false,
      ),
    )

pub loop-k-preserved : goal.loop-k-preserved
loop-k-preserved c =
    let i = c.loop-k in
    let a = c.args in
    let sh = sheet_of a.s.now in
    let h = c.loop-k-test.true in
    let d = c.read_record-d in
    let tested = c.decoded_ok.ensures ∙ named_ok c.requires.0 d.result c.step_named-named.ensures i.types a.len in
    let ok = went tested c.if-not-decoded_ok.false in
    let after = c.decoded_types-after.ensures ∙ named_types c.requires.0 d.result c.step_named-named.ensures i.types a.len ok in (
      rw after (decoded_sized sh (outlined_within c.requires.0) i.types a.len d.result ok i.invariant.0),
      rw after (range_go a.records sh a.len (tape_record a.tape.now) i.k i.types h d.ensures.0 ok ∙ i.invariant.1),
    )

pub returns : goal.returns
returns c =
    let i = c.loop-k in
    let a = c.args in
    c.not_refused.ensures
    ∙ range_end a.records (sheet_of a.s.now) a.len (tape_record a.tape.now) i.k i.types c.loop-k-test.false
    ∙ i.invariant.1

use mathlib.Core.Path.{refl}
use Rattle.numbers.specs.Laws.Choice.{tests, taken, left, went}
use Rattle.contents.specs.Laws.Heads.{layout_room}
use Rattle.sheet_reader.specs.Reading.{layout_refusal}
use Rattle.sheet_reader.proofs.layout_refusal.Goals as goal

pub returns-then-not-layout_may_come : goal.returns-then-not-layout_may_come
unfolding layout_refusal
returns-then-not-layout_may_come c = left _ (search tests) refl

pub returns-then-not-layout_length_ok : goal.returns-then-not-layout_length_ok
unfolding layout_refusal
returns-then-not-layout_length_ok c = taken _ (search tests) (left _ (search tests) refl)

pub layout_head_ok-requires : goal.layout_head_ok-requires
layout_head_ok-requires c = (layout_room _ (went c.layout_length_ok.ensures c.if-not-layout_length_ok.false), c.requires)

pub returns-then-not-layout_head_ok : goal.returns-then-not-layout_head_ok
unfolding layout_refusal
returns-then-not-layout_head_ok c = taken _ (search tests) (taken _ (search tests) (left _ (search tests) refl))

pub layout_at-l-requires : goal.layout_at-l-requires
layout_at-l-requires c = (layout_room _ (went c.layout_length_ok.ensures c.if-not-layout_length_ok.false), c.requires, went c.layout_head_ok.ensures c.if-not-layout_head_ok.false)

pub returns-then-not-layout_ok : goal.returns-then-not-layout_ok
unfolding layout_refusal
returns-then-not-layout_ok c = taken _ (search tests) (taken _ (search tests) (taken _ (search tests) (rw (← c.layout_at-l.ensures) (left _ (search tests) refl))))

pub returns : goal.returns
unfolding layout_refusal
returns c = taken _ (search tests) (taken _ (search tests) (taken _ (search tests) (rw (← c.layout_at-l.ensures) (taken _ (search tests) refl))))

use mathlib.Core.Path.{refl}
use Rattle.numbers.specs.Laws.Choice.{tests, taken, left, went}
use Rattle.contents.specs.Laws.Heads.{view_room}
use Rattle.sheet_reader.specs.Reading.{view_refusal}
use Rattle.sheet_reader.proofs.view_refusal.Goals as goal

pub returns-then-not-view_may_come : goal.returns-then-not-view_may_come
unfolding view_refusal
returns-then-not-view_may_come c = left _ (search tests) refl

pub returns-then-not-view_length_ok : goal.returns-then-not-view_length_ok
unfolding view_refusal
returns-then-not-view_length_ok c = taken _ (search tests) (left _ (search tests) refl)

pub view_head_ok-requires : goal.view_head_ok-requires
view_head_ok-requires c = (view_room _ (went c.view_length_ok.ensures c.if-not-view_length_ok.false), c.requires)

pub returns-then-not-view_head_ok : goal.returns-then-not-view_head_ok
unfolding view_refusal
returns-then-not-view_head_ok c = taken _ (search tests) (taken _ (search tests) (left _ (search tests) refl))

pub view_at-v-requires : goal.view_at-v-requires
view_at-v-requires c = (view_room _ (went c.view_length_ok.ensures c.if-not-view_length_ok.false), c.requires, went c.view_head_ok.ensures c.if-not-view_head_ok.false)

pub returns-then-not-view_ok : goal.returns-then-not-view_ok
unfolding view_refusal
returns-then-not-view_ok c = taken _ (search tests) (taken _ (search tests) (taken _ (search tests) (rw (← c.view_at-v.ensures) (left _ (search tests) refl))))

pub returns : goal.returns
unfolding view_refusal
returns c = taken _ (search tests) (taken _ (search tests) (taken _ (search tests) (rw (← c.view_at-v.ensures) (taken _ (search tests) refl))))

use mathlib.Core.Path.{refl}
use Rattle.numbers.specs.Laws.Choice.{taken, left, tests}
use Rattle.traces.specs.Reading.{field_refusal}
use Rattle.traces.proofs.field_refusal.Goals as goal

pub returns-then-tag-ne-EVENT_TAG : goal.returns-then-tag-ne-EVENT_TAG
unfolding field_refusal
returns-then-tag-ne-EVENT_TAG c = left _ (search tests) refl

pub returns-then-len-ne-CONTENT_LEN : goal.returns-then-len-ne-CONTENT_LEN
unfolding field_refusal
returns-then-len-ne-CONTENT_LEN c = taken _ (search tests) (left _ (search tests) refl)

pub returns-then-not-event_ok : goal.returns-then-not-event_ok
unfolding field_refusal
returns-then-not-event_ok c = rw (← c.event_at-e.ensures) (taken _ (search tests) (taken _ (search tests) (left _ (search tests) refl)))

pub returns-then-not-is_after : goal.returns-then-not-is_after
unfolding field_refusal
returns-then-not-is_after c =
    rw (← c.event_at-e.ensures) (taken _ (search tests) (taken _ (search tests) (taken _ (search tests) (left _ (search tests) refl))))

pub returns : goal.returns
unfolding field_refusal
returns c =
    rw (← c.event_at-e.ensures) (taken _ (search tests) (taken _ (search tests) (taken _ (search tests) (taken _ (search tests) refl))))

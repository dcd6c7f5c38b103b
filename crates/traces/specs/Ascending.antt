-- Events that may stand in a trace, each after the one before.
use Rattle.std.specs.Prelude.{◌≡◌, true, List, [], ◌∷◌}
use Rattle.traces.specs.Events.{event_ok, is_after}
use Rattle.traces.specs.declared.Event.{Event}
use Rattle.traces.specs.declared.Previous.{Previous}
use Rattle.traces.specs.declared.Previous.TheVariants.{Some}

abbrev pub Ascending : Previous → List Event → Type 0
Ascending previous [] = Unit {0}
Ascending previous (e ∷ es) = (event_ok e ≡ true) × (is_after previous e ≡ true) × Ascending (Some e) es

-- `same_event` tells whether two events are equal.
use Rattle.std.specs.Prelude.{ℕ, ◌≡◌, refl, true, eqb}
use Rattle.std.proofs.Common.{eqb-true, eq-eqb}
use Rattle.numbers.specs.Laws.Choice.{both_left, both_right, both_true}
use Rattle.traces.specs.Events.{same_event}
use Rattle.traces.specs.declared.Event.{Event}

pub same_equal : (x y : Event) → same_event x y ≡ true → x ≡ y
unfolding same_event
same_equal x y h =
    let a : x.step ≡ y.step = eqb-true _ _ (both_left _ _ h) in
    let r = both_right _ _ h in
    let b : x.element ≡ y.element = eqb-true _ _ (both_left _ _ r) in
    let q = both_right _ _ r in
    let c : x.sort ≡ y.sort = eqb-true _ _ (both_left _ _ q) in
    let d : x.byte ≡ y.byte = eqb-true _ _ (both_right _ _ q) in
    λ i. record { step = a i; element = b i; sort = c i; byte = d i }

pub same_self : (x : Event) → same_event x x ≡ true
unfolding same_event
same_self x =
    both_true _ _ (same x.step) (both_true _ _ (same x.element) (both_true _ _ (same x.sort) (same x.byte)))
  where
    same : (n : ℕ) → eqb n n ≡ true
    same n = eq-eqb n n refl

-- Two even runs from one element are alike: of one sort, and with the same byte, step and value.
use Rattle.std.specs.Prelude.{ℕ, ◌≤◌, ◌≡◌, ℤ}
use Rattle.std.proofs.Common.{arith}
use Rattle.outcomes.specs.declared.Outcome.{Outcome}
use Rattle.outcomes.specs.declared.Outcome.TheVariants.{Filled, Placed}
use Rattle.signed.specs.Laws.Numbers.{one_way}
use Rattle.records.specs.Laws.ByteSteps.{at_parts, same_parts}
use Rattle.runs.specs.Even.{EvenBytes, EvenFills}

pub same_byte : {x y : ℕ} {o : Outcome} → o ≡ Placed x → o ≡ Placed y → x ≡ y
same_byte p q = cc

pub same_value : {x y : ℕ} {o : Outcome} → o ≡ Filled x → o ≡ Filled y → x ≡ y
same_value p q = cc

pub other_sort : {x y : ℕ} {o : Outcome} → o ≡ Placed x → o ≡ Filled y → ⊥
other_sort p q = let z : ◌≡◌ {A = ℕ} 0 1 = cc in omega arith

module _ (f : ℕ → Outcome) {n e m l b c : ℕ} {s t : ℤ} (p : EvenBytes f n e m b s) (q : EvenBytes f n e l c t) where
  -- the first element gives the byte
  pub alike_byte : b ≡ c
  alike_byte =
      let x = p.at 0 p.some in
      let y = q.at 0 q.some in
      omega (arith, same_byte x.placed y.placed, at_parts x.byte b 0 s x.same, at_parts y.byte c 0 t y.same)

  -- and the second one the step
  pub alike_step : 2 ≤ m → 2 ≤ l → s ≡ t
  alike_step h k =
      let x = p.at 1 h in
      let y = q.at 1 k in
      let z = same_byte x.placed y.placed in
      let v = at_parts x.byte b 1 s x.same in
      let w = at_parts y.byte c 1 t y.same in
      let a = alike_byte in
      same_parts s t (omega (arith, one_way s, one_way t)) (omega (arith, one_way s, one_way t))

module _ (f : ℕ → Outcome) {n e m l v w : ℕ} (p : EvenFills f n e m v) (q : EvenFills f n e l w) where
  pub alike_value : v ≡ w
  alike_value = same_value (p.at 0 p.some) (q.at 0 q.some)

module _ (f : ℕ → Outcome) {n e m l b v : ℕ} {s : ℤ} (p : EvenBytes f n e m b s) (q : EvenFills f n e l v) where
  pub one_sort : ⊥
  one_sort = other_sort (p.at 0 p.some).placed (q.at 0 q.some)

-- What stands in the list of the placed elements: each of them once, and nothing else.
use Prim.Native.Nat.{ℕ, zero, suc, ◌<◌}
use Rattle.std.specs.Prelude.{◌≡◌, refl}
use mathlib.Core.HLevel.{×_prop}
use Rattle.std.proofs.Math.Logic.Or
use mathlib.Core.List.{Mem, Nodup, not-mem-nil, Nodup-nil, Nodup-cons, Nodup-append, mem-append, mem-append_left, mem-append_right, mem-singleton}
use Rattle.std.proofs.Math.Bridge.{le_prop}
use Rattle.std.proofs.Math.Nat.{ℕ_set}
use native.Mathlib.Omega.{arith}
use Rattle.numbers.specs.Lists.{each}
use Rattle.numbers.specs.Laws.Choice.{by_place}
use Rattle.outcomes.specs.declared.Outcome.{Outcome}
use Rattle.outcomes.specs.declared.Outcome.TheVariants.{Skipped, Filled, Discarded, Placed}
use Rattle.accesses.specs.Refusals.{placed_one}
use Rattle.orders.specs.Orders.{if_placed, placed_of}

-- of one element
module _ (n : ℕ) where
  only_itself : (o : Outcome) (k : ℕ) → Mem k (if_placed o n) → (k ≡ n) × (placed_one o ≡ 1)
  only_itself Skipped k m = absurd (not-mem-nil m)
  only_itself (Filled bits) k m = absurd (not-mem-nil m)
  only_itself Discarded k m = absurd (not-mem-nil m)
  only_itself (Placed byte) k m = ((mem-singleton ℕ_set).0 m, refl)

  itself : (o : Outcome) → placed_one o ≡ 1 → Mem n (if_placed o n)
  itself Skipped e = absurd (omega arith)
  itself (Filled bits) e = absurd (omega arith)
  itself Discarded e = absurd (omega arith)
  itself (Placed byte) e = (mem-singleton ℕ_set).1 refl

  once : (o : Outcome) → Nodup (if_placed o n)
  once Skipped = Nodup-nil
  once (Filled bits) = Nodup-nil
  once Discarded = Nodup-nil
  once (Placed byte) = Nodup-cons.1 (not-mem-nil, Nodup-nil)

-- of n
module _ (outcome : ℕ → Outcome) where
  pub placed_only : (n k : ℕ) → Mem k (placed_of outcome n) → (k < n) × (placed_one (outcome k) ≡ 1)
  unfolding each
  placed_only zero k m = absurd (not-mem-nil m)
  placed_only (suc n) k m =
      Or.elim (×_prop le_prop (ℕ_set (placed_one (outcome k)) 1)) (mem-append.0 m)
      (λ before. let h = placed_only n k before in (omega (arith, h.0), h.1))
      (λ last. let h = only_itself n (outcome n) k last in rw h.0 (omega arith, h.1))

  pub placed_all : (n k : ℕ) → k < n → placed_one (outcome k) ≡ 1 → Mem k (placed_of outcome n)
  unfolding each
  placed_all zero k h e = absurd (omega arith)
  placed_all (suc n) k h e =
      by_place k n (λ q. mem-append_right (placed_of outcome n) (rw q (itself n (outcome n) (rw q at e))))
      (λ d. mem-append_left (if_placed (outcome n) n) (placed_all n k (omega arith) e))

  pub placed_once : (n : ℕ) → Nodup (placed_of outcome n)
  unfolding each
  placed_once zero = Nodup-nil
  placed_once (suc n) =
      Nodup-append.1 (
        placed_once n,
        once n (outcome n),
        λ k before last. let h = placed_only n k before in let e = only_itself n (outcome n) k last in omega (arith, h.0, e.0),
      )

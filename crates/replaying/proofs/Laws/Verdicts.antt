-- What the verdict on two lists says of them.
use Rattle.std.specs.Prelude.{ℕ, suc, ◌≤◌, refl, Bool, List, [], ◌∷◌, eqb, take}
use Rattle.std.proofs.Math.Path.{◌≡◌, sym}
use Rattle.std.proofs.Common.{ap, ap₂, ◌∙◌, arith}
use Rattle.std.proofs.Math.Bool.{true≢false}
use borrow.Author.Tests.{eqb-true, eq-eqb}
use Rattle.std.proofs.Math.ListN.{length}
use Rattle.std.proofs.Math.Seq.{take_all}
use Rattle.numbers.specs.Choice.{pick, both}
use Rattle.numbers.specs.Laws.Choice.{pick_case, both_left, both_right, both_true}
use Rattle.traces.specs.Events.{same_event}
use Rattle.traces.proofs.Laws.Events.{same_equal, same_self}
use Rattle.traces.specs.declared.Event.{Event}
use Rattle.replaying.specs.Verdicts.{common, verdict_at, verdict_of, FirstDifference}
use Rattle.replaying.specs.declared.Verdict.{Verdict}
use Rattle.replaying.specs.declared.Verdict.TheVariants.{Agrees, Differs}

-- the common beginning is one of both ..
common_equal : (xs ys : List Event) → take (common xs ys) xs ≡ take (common xs ys) ys
unfolding common
common_equal [] [] = refl
common_equal [] (y ∷ ys) = refl
common_equal (x ∷ xs) [] = refl
common_equal (x ∷ xs) (y ∷ ys) =
    pick_case (λ (n : ℕ). take n (x ∷ xs) ≡ take n (y ∷ ys)) (same_event x y) (suc (common xs ys)) 0
    (λ e. ap₂ ◌∷◌ (same_equal x y e) (common_equal xs ys)) (λ e. refl)

-- .. and the longest: with one event more they are alike only where both end
common_longest : (xs ys : List Event) → take (suc (common xs ys)) xs ≡ take (suc (common xs ys)) ys → (common xs ys ≡ length xs) × (common xs ys ≡ length ys)
unfolding common
common_longest [] [] h = (refl, refl)
common_longest [] (y ∷ ys) h = absurd (omega (arith, ap length h))
common_longest (x ∷ xs) [] h = absurd (omega (arith, ap length h))
common_longest (x ∷ xs) (y ∷ ys) h =
    pick_case (λ (n : ℕ). take (suc n) (x ∷ xs) ≡ take (suc n) (y ∷ ys) → (n ≡ suc (length xs)) × (n ≡ suc (length ys))) (same_event x y) (suc (common xs ys)) 0
    (λ e h.
    let rest : take (suc (common xs ys)) xs ≡ take (suc (common xs ys)) ys = cc in
    let both = common_longest xs ys rest in
    (ap suc both.0, ap suc both.1))
    (λ e h.
    let q : x ≡ y = cc in
    absurd (true≢false (sym (same_self x) ∙ ap (same_event x) q ∙ e))) h

pub common_most : (xs ys : List Event) → common xs ys ≤ length xs
unfolding common
common_most [] ys = omega arith
common_most (x ∷ xs) [] = omega arith
common_most (x ∷ xs) (y ∷ ys) = pick_case (λ (n : ℕ). n ≤ suc (length xs)) (same_event x y) _ _ (λ e. omega (arith, common_most xs ys)) (λ e. omega arith)

common_self : (xs : List Event) → common xs xs ≡ length xs
unfolding common pick
common_self [] = refl
common_self (x ∷ xs) = rw (same_self x) (ap suc (common_self xs))

module _ (xs ys : List Event) where
  abbrev ends : Bool
  ends = both (eqb (common xs ys) (length xs)) (eqb (common xs ys) (length ys))

  -- Agrees exactly where the lists are equal ..
  pub agrees_equal : verdict_of xs ys ≡ Agrees → xs ≡ ys
  unfolding verdict_at
  agrees_equal =
      pick_case (λ (v : Verdict). v ≡ Agrees → xs ≡ ys) ends Agrees (Differs (common xs ys))
      (λ e h.
      let a : common xs ys ≡ length xs = eqb-true _ _ (both_left _ _ e) in
      let b : common xs ys ≡ length ys = eqb-true _ _ (both_right _ _ e) in
      sym (take_all (common xs ys) xs (omega arith)) ∙ common_equal xs ys ∙ take_all (common xs ys) ys (omega arith))
      (λ e h. let z : ◌≡◌ {A = ℕ} 0 1 = cc in absurd (omega arith))

  pub equal_agrees : xs ≡ ys → verdict_of xs ys ≡ Agrees
  unfolding verdict_at pick
  equal_agrees e = rw (← e, common_self xs, both_true _ _ (eq-eqb (length xs) (length xs) refl) (eq-eqb (length xs) (length xs) refl))

  -- .. and else the first index at which they differ
  pub differs_first : (i : ℕ) → verdict_of xs ys ≡ Differs i → FirstDifference i xs ys
  unfolding verdict_at
  differs_first i =
      pick_case (λ (v : Verdict). v ≡ Differs i → FirstDifference i xs ys) ends Agrees (Differs (common xs ys))
      (λ e h. let z : ◌≡◌ {A = ℕ} 0 1 = cc in absurd (omega arith))
      (λ e h.
      let q : common xs ys ≡ i = cc in
      rw (← q)
      (record {
        same = common_equal xs ys;
        other =
            λ t.
            let both = common_longest xs ys t in
            true≢false (sym (both_true _ _ (eq-eqb _ _ both.0) (eq-eqb _ _ both.1)) ∙ e);
      }))

-- What is known of the elements of an access, and of one that is not refused.
use Rattle.std.specs.Prelude.{ℕ, zero, suc, ◌+◌, ◌*◌, ◌/◌, ◌%◌, ◌^◌, ◌<◌, ◌≤◌, ◌≡◌, refl, Bool, true, false, ◌⊎◌, eqb, ltb}
use Rattle.std.proofs.Common.{zero-le, sym, ap, ◌∙◌, true≢false, inl, inr, le_refl, mul-le-mul_right, arith}
use borrow.Author.Tests.{eqb-true, eqb-false, ltb-true, ltb-false, not-false}
use Rattle.numbers.specs.Choice.{pick, both}
use Rattle.numbers.specs.Laws.Choice.{by_test}
use Rattle.outcomes.specs.declared.Outcome.{Outcome}
use Rattle.outcomes.specs.declared.Outcome.TheVariants.{Skipped, Filled, Discarded, Placed}
use Rattle.addressing.specs.declared.Access.{Access}
use Rattle.addressing.specs.declared.Located.{Located}
use Rattle.addressing.specs.Rules.{elements_of}
use Rattle.addressing.specs.Valid.{SizedAccess, ValidAccess}
use Rattle.addressing.specs.Sound.{Sound}
use Rattle.addressing.specs.Laws.Sound.{located_sound, low_bits_fit}
use Rattle.refusals.specs.Refusals.{unaligned_base, ranks_differ, blocked_store, byte_twice, stop_at}
use Rattle.refusals.specs.declared.Stop.{Stop}
use Rattle.clashes.specs.Clashes.{clash_from}
use Rattle.clashes.specs.Laws.Clashes.{meets_none_of, none_clash}
use Rattle.accesses.specs.Refusals.{element_outcome, misplaced, other_rank, store_blocked, first_refused, same_at, clash_refusal, elements_refusal, access_refusal, placed_one, placed_count}

pub element_sound : (a : Access) (k : ℕ) → Sound a (element_outcome a k).outcome
unfolding element_outcome
element_sound a k = located_sound a (k / a.columns) (k % a.columns)

-- Of element k of any access:
module _ (a : Access) (k : ℕ) where
  -- an element's bytes lie in memory
  pub placed_inside : {byte : ℕ} → (element_outcome a k).outcome ≡ Placed byte → byte + a.size ≤ a.memory
  placed_inside e = (rw e at (element_sound a k)).0

  -- a store fills no element
  pub store_not_filled : {bits : ℕ} → a.load ≡ false → (element_outcome a k).outcome ≡ Filled bits → ⊥
  store_not_filled s e = true≢false (sym (rw e at (element_sound a k)).0 ∙ s)

  -- a load discards no element
  pub load_not_discarded : a.load ≡ true → (element_outcome a k).outcome ≡ Discarded → ⊥
  load_not_discarded l e = true≢false (sym l ∙ (rw e at (element_sound a k)))

  -- a filled element's bits are below 2 to its width
  pub filled_fits : {bits : ℕ} → (element_outcome a k).outcome ≡ Filled bits → bits < 2 ^ (8 * a.size)
  filled_fits e = rw (rw e at (element_sound a k)).1 (low_bits_fit a)

one_most : (o : Outcome) → placed_one o ≤ 1
one_most Skipped = zero-le
one_most (Filled bits) = zero-le
one_most Discarded = zero-le
one_most (Placed byte) = le_refl 1

-- no more elements have a byte than there are
pub placed_most : (f : ℕ → Located) (m : ℕ) → placed_count f m ≤ m
unfolding placed_count
placed_most f zero = omega arith
placed_most f (suc m) = omega (arith, placed_most f m, one_most (f m).outcome)

-- a choice between a refusal and another answer that is no refusal
past : (b : Bool) (x y : Stop) → (x.number ≡ 0 → ⊥) → (pick b x y).number ≡ 0 → (b ≡ false) × (y.number ≡ 0)
unfolding pick
past true x y n e = absurd (n e)
past false x y n e = (refl, e)

-- no element is refused where none is the first
none_refused : (f : ℕ → Located) (i m : ℕ) → (first_refused f i m).number ≡ 0 → (k : ℕ) → i ≤ k → k < i + m → (f k).refusal ≡ 0
unfolding first_refused pick
none_refused f i zero e k h l = absurd (omega arith)
none_refused f i (suc m) e k h l =
    by_test (eqb (f i).refusal 0)
    (λ t. by_test (eqb k i) (λ q. rw (eqb-true k i q) (eqb-true _ _ t))
    (λ q. let d : k ≡ i → ⊥ = eqb-false k i q in none_refused f (suc i) m (rw t at e) k (omega arith) (omega arith)))
    (λ t. absurd (eqb-false (f i).refusal 0 t (rw t at e)))

-- a multiple of the size below another one is a whole element below it
below : (base size : ℕ) {t u x y : ℕ} → t < u → x ≡ base + t * size → y ≡ base + u * size → x + size ≤ y
below base size {t} {u} h ex ey = let m : suc t * size ≤ u * size = mul-le-mul_right size h in omega arith

pub ranks_agree : (a : Access) → other_rank a ≡ false → a.viewed ≡ true → a.view.sized ≡ false → a.view.rank ≡ a.layout.rank
unfolding other_rank both pick
ranks_agree a e v s = eqb-true a.view.rank a.layout.rank (not-false _ (rw (v, s) at e))

-- Of an access that is not refused:
module _ (a : Access) (ok : (access_refusal a).number ≡ 0) where
  abbrev count : ℕ
  count = elements_of a

  past_nine : (pick (other_rank a) (stop_at ranks_differ 0) (pick (store_blocked a) (stop_at blocked_store 0) (elements_refusal a.load (element_outcome a) count))).number ≡ 0
  unfolding access_refusal
  past_nine = (past (misplaced a) (stop_at unaligned_base 0) _ (λ e. omega arith) ok).1

  ranks_same : other_rank a ≡ false
  ranks_same = (past (other_rank a) (stop_at ranks_differ 0) _ (λ e. omega arith) past_nine).0

  past_eleven : (elements_refusal a.load (element_outcome a) count).number ≡ 0
  past_eleven = (past (store_blocked a) (stop_at blocked_store 0) _ (λ e. omega arith) (past (other_rank a) (stop_at ranks_differ 0) _ (λ e. omega arith) past_nine).1).1

  first_clear : (first_refused (element_outcome a) 0 count).number ≡ 0
  unfolding elements_refusal pick
  first_clear =
      by_test (eqb (first_refused (element_outcome a) 0 count).number 0) (λ t. eqb-true _ _ t)
      (λ t. absurd (eqb-false _ _ t (rw t at past_eleven)))

  -- no element is refused
  pub element_accepted : (k : ℕ) → k < elements_of a → (element_outcome a k).refusal ≡ 0
  element_accepted k h = none_refused (element_outcome a) 0 count first_clear k (omega arith) (omega arith)

  -- a view without dimensions has the layout's dimension count, so the elements can be looked at again
  pub accepted_valid : SizedAccess a → ValidAccess a
  accepted_valid s = record { sized = s; ranks = ranks_agree a ranks_same }

  module _ (store : a.load ≡ false) where
    search_clear : count ≤ clash_from (same_at (element_outcome a)) 0 count
    unfolding elements_refusal clash_refusal pick
    search_clear =
        by_test (ltb (clash_from (same_at (element_outcome a)) 0 count) count)
        (λ t. let z : byte_twice ≡ 0 = rw (t, first_clear, store) at past_eleven in absurd (omega arith)) (λ t. ltb-false _ _ t)

    other_byte : (i j x y : ℕ) → j < i → i < count → (element_outcome a i).outcome ≡ Placed x → (element_outcome a j).outcome ≡ Placed y
        → x ≡ y → ⊥
    other_byte i j x y h l ex ey e =
        let same = same_at (element_outcome a) in
        let apart : same j i ≡ false =
        meets_none_of same i i (none_clash same 0 count (omega (arith, search_clear)) i (omega arith) (omega arith)) j h in
        let z : eqb y x ≡ false = rw (ex, ey) at apart in
        eqb-false y x z (sym e)

    -- two elements of a store never share a byte: all bytes of one lie before all bytes of the other
    pub placed_apart : (i j : ℕ) {x y : ℕ} → i < elements_of a → j < elements_of a → (i ≡ j → ⊥)
        → (element_outcome a i).outcome ≡ Placed x → (element_outcome a j).outcome ≡ Placed y
        → (x + a.size ≤ y) ⊎ (y + a.size ≤ x)
    placed_apart i j {x} {y} hi hj d ex ey =
        let sx : Sound a (Placed x) = rw ex at (element_sound a i) in
        let sy : Sound a (Placed y) = rw ey at (element_sound a j) in
        let t = sx.1.0 in
        let u = sy.1.0 in
        let differ : x ≡ y → ⊥ =
        λ e.
        by_test (ltb j i) (λ w. other_byte i j x y (ltb-true _ _ w) hi ex ey e)
        (λ w. let v : i ≤ j = ltb-false _ _ w in other_byte j i y x (omega arith) hj ey ex (sym e)) in
        by_test (ltb t u) (λ w. inl (below a.base a.size (ltb-true _ _ w) sx.1.1 sy.1.1))
        (λ w. by_test (eqb u t)
        (λ q. absurd (differ (sx.1.1 ∙ ap (λ (s : ℕ). a.base + s * a.size) (sym (eqb-true u t q)) ∙ sym sy.1.1)))
        (λ q.
        let v : u ≤ t = ltb-false _ _ w in
        let k : u ≡ t → ⊥ = eqb-false u t q in
        inr (below a.base a.size {t = u} {u = t} (omega arith) sy.1.1 sx.1.1)))

-- Laws of `all`: none, one more, at each place, and where it fails.
use Rattle.std.specs.Prelude.{ℕ, zero, suc, ◌+◌, ◌<◌, ◌≡◌, refl, Bool, true, false, eqb}
use Rattle.std.proofs.Common.{sym, ◌∙◌, true≢false, not-suc-le-zero, add-one, arith, eqb-true}
use Rattle.std.proofs.lemmas.Bool.{eqb-false}
use Rattle.numbers.specs.Laws.Choice.{both_left, both_right, both_true, by_test}
use Rattle.numbers.specs.All.{all}

pub all_none : (f : ℕ → Bool) → all 0 f ≡ true
unfolding all
all_none f = refl

-- one more
pub all_more : (n : ℕ) (f : ℕ → Bool) → all n f ≡ true → f n ≡ true → all (n + 1) f ≡ true
unfolding all
all_more n f p q = rw add-one (both_true (all n f) (f n) p q)

pub all_at : (n : ℕ) (f : ℕ → Bool) → all n f ≡ true → (k : ℕ) → k < n → f k ≡ true
unfolding all
all_at zero f e k h = absurd (not-suc-le-zero h)
all_at (suc n) f e k h =
    by_test (eqb k n) (λ q. rw (eqb-true k n q) (both_right (all n f) (f n) e))
    (λ q. let d : k ≡ n → ⊥ = eqb-false k n q in all_at n f (both_left (all n f) (f n) e) k (omega arith))

-- one that is false decides
pub all_false : (n : ℕ) (f : ℕ → Bool) (k : ℕ) → k < n → f k ≡ false → all n f ≡ false
all_false n f k h e = by_test (all n f) (λ p. absurd (true≢false (sym (all_at n f p k h) ∙ e))) (λ p. p)

pub all_true : (n : ℕ) (f : ℕ → Bool) → ((k : ℕ) → k < n → f k ≡ true) → all n f ≡ true
unfolding all
all_true zero f h = refl
all_true (suc n) f h = both_true (all n f) (f n) (all_true n f (λ k l. h k (omega arith))) (h n (omega arith))

-- What chains over the places below a bound answer.
use Rattle.std.specs.Prelude.{ℕ, zero, suc, ◌+◌, ◌≡◌, refl, Bool, true, false, Option, List, ◌&&◌}
use Rattle.std.specs.Fn.{Called}
use Rattle.std.specs.Iterator.{YieldsThen}
use Rattle.std.specs.List.{FoldsTo, range_with_len, list_all}
use Rattle.std.specs.Option.{MatchOption}
use Rattle.std.specs.declared.ops.Range.{Range}
use Rattle.std.proofs.Common.{sym, ap, ◌∙◌, arith}
use Rattle.std.proofs.iter.Yields.{nat_range_steps}
use Rattle.std.proofs.lemmas.Iterator.{YieldsList-from_range}
use Rattle.std.proofs.lemmas.Iterator.Search.{all_from_yields_List}
use denote.Param.Members.{Mut}
use Rattle.numbers.specs.Choice.{pick, both}
use Rattle.numbers.specs.All.{all}

-- tests that agree at every place
pub all_same : (n : ℕ) (f g : ℕ → Bool) → ((k : ℕ) → f k ≡ g k) → all n f ≡ all n g
unfolding all
all_same zero f g h = refl
all_same (suc n) f g h = ap (λ b. both b (f n)) (all_same n f g h) ∙ ap (both (all n g)) (h n)

last_of : (a b c : Bool) → both (a && b) c ≡ (a && both b c)
unfolding both pick
last_of true b c = refl
last_of false b c = refl

and_true : (b : Bool) → (b && true) ≡ b
and_true true = refl
and_true false = refl

-- a test of the places from a on, as the list of them has it
all_first : (n a : ℕ) (f : ℕ → Bool) → (f a && all n (λ k. f (a + 1 + k))) ≡ all (suc n) (λ k. f (a + k))
unfolding all both pick
all_first zero a f = and_true (f a) ∙ ap f (omega arith)
all_first (suc n) a f =
    sym (last_of (f a) (all n (λ k. f (a + 1 + k))) (f (a + 1 + n)))
    ∙ ap (λ b. both b (f (a + 1 + n))) (all_first n a f)
    ∙ ap (λ k. both (all (suc n) (λ k. f (a + k))) (f k)) (omega arith)

all_from : (n a : ℕ) (f : ℕ → Bool) → list_all f (range_with_len a n) ≡ all n (λ k. f (a + k))
unfolding all
all_from zero a f = refl
all_from (suc n) a f = ap (λ b. f a && b) (all_from n (a + 1) f) ∙ all_first n a f

-- the answer of `(0..n).all(..)`, whose closure computes f: `all_range n f _ _ _ c.all.ensures.ran (λ x b q k. search (rules, tests))`
pub all_range :
    {F : Type 0} {g : Mut F (ℕ × Unit {0}) Bool} (n : ℕ) (f : ℕ → Bool) (u : Range ℕ) (c : F) (r : Bool)
    → (xs : List ℕ) × (o : Option ℕ) × (j : F)
    × YieldsThen nat_range_steps (record { start = 0; end = n }) xs o u
    × FoldsTo (λ p x q. Called g p (x, tt) true q) c xs j
    × MatchOption o (r ≡ true) (λ x. (r ≡ false) × ((h : F) × Called g j (x, tt) false h))
    → ((x : ℕ) (b : Bool) (q : F) → Called g c (x, tt) b q → (q ≡ c) × (b ≡ f x))
    → r ≡ all n f
all_range n f u c r ran h =
    all_from_yields_List f u c r ran (YieldsList-from_range 0 n n refl (omega arith)) h
    ∙ all_from n 0 f
    ∙ all_same n _ f (λ k. ap f (omega arith))

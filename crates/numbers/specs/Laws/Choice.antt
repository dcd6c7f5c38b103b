-- The laws by which a proof follows the way that the code took, and what tests tell.
use Rattle.std.specs.Prelude.{ℕ, ◌≤◌, ◌<◌, ◌≡◌, refl, Bool, true, false, not, cond, ◌&&◌, ◌⊎◌, eqb, ltb, leb}
use Rattle.std.proofs.Common.{sym, ◌∙◌, true≢false, inl, inr, lt-ltb, le-ltb, le-leb, eq-eqb, ne_eqb, ltb-false, leb-true, eqb-true, ltb-true}
use Rattle.std.proofs.lemmas.Bool.{lt-leb, not-true, not-false, eqb-false}
use Rattle.numbers.specs.Choice.{pick, both, between}

-- r is what a choice gives, by the way that its test went
pub taken : {A : Type 0} {b : Bool} {r x : A} (y : A) → b ≡ true → r ≡ x → r ≡ pick b x y
unfolding pick
taken {r = r} {x = x} y e p = rw e p

pub left : {A : Type 0} {b : Bool} {r y : A} (x : A) → b ≡ false → r ≡ y → r ≡ pick b x y
unfolding pick
left {r = r} {y = y} x e p = rw e p

-- a call of a test ensures its definition, and a branch tells which way it went
pub went : {r t b : Bool} → r ≡ t → r ≡ b → t ≡ b
went p q = sym p ∙ q

-- the same where the branch is on `!call`
pub went_not : {r t : Bool} → r ≡ t → not r ≡ true → t ≡ false
went_not p q = sym p ∙ not-true _ q

pub went_past : {r t : Bool} → r ≡ t → not r ≡ false → t ≡ true
went_past p q = sym p ∙ not-false _ q

pub ne_not : (a b : ℕ) → (a ≡ b → ⊥) → not (eqb a b) ≡ true
ne_not a b h = rw (ne_eqb a b h)

pub eq_not : (a b : ℕ) → a ≡ b → not (eqb a b) ≡ false
eq_not a b h = rw (eq-eqb a b h)

-- for `search`: which way each test of a nest of choices went
pub ruleset ways = (taken, left, lt-ltb, le-ltb, le-leb, lt-leb, eq-eqb, ne_eqb, ne_not, eq_not)

-- the same where some tests are calls
pub ruleset calls = (taken, left, went, went_not, went_past, lt-ltb, le-ltb, le-leb, lt-leb, eq-eqb, ne_eqb, ne_not, eq_not)

-- for `search`: which way one test went
pub ruleset tests = (went, went_not, went_past, lt-ltb, le-ltb, le-leb, lt-leb, eq-eqb, ne_eqb, ne_not, eq_not)

-- a row of tests joined by `both`: the first that is false decides
pub stop : {a : Bool} (b : Bool) → a ≡ false → false ≡ both a b
unfolding both
stop b e = left _ e refl

pub pass : {a b r : Bool} → a ≡ true → r ≡ b → r ≡ both a b
unfolding both
pass e p = taken _ e p

-- a choice that came out as z: by which way
pub pick_inv : {A : Type 0} (b : Bool) (x y : A) {z : A} → pick b x y ≡ z → ((b ≡ true) × (x ≡ z)) ⊎ ((b ≡ false) × (y ≡ z))
unfolding pick
pick_inv true x y e = inl (refl, e)
pick_inv false x y e = inr (refl, e)

-- what holds of both answers holds of a choice, each by its way
pub pick_case : {A : Type 0} (P : A → Type 0) (t : Bool) (x y : A) → (t ≡ true → P x) → (t ≡ false → P y) → P (pick t x y)
unfolding pick
pick_case P true x y f g = f refl
pick_case P false x y f g = g refl

pub both_left : (a b : Bool) → both a b ≡ true → a ≡ true
unfolding both pick
both_left true b e = refl
both_left false b e = absurd (true≢false (sym e))

pub both_right : (a b : Bool) → both a b ≡ true → b ≡ true
unfolding both pick
both_right true b e = e
both_right false b e = absurd (true≢false (sym e))

pub both_true : (a b : Bool) → a ≡ true → b ≡ true → both a b ≡ true
unfolding both pick
both_true true b p q = q
both_true false b p q = p

-- a range as orders, and back
pub between_low : (low high x : ℕ) → between low high x ≡ true → low ≤ x
unfolding between pick
between_low low high x e = pick_case (λ (b : Bool). b ≡ true → low ≤ x) (ltb x low) false (leb x high)
    (λ p q. absurd (true≢false (sym q)))
    (λ p q. ltb-false x low p) e

pub between_high : (low high x : ℕ) → between low high x ≡ true → x ≤ high
unfolding between pick
between_high low high x e = pick_case (λ (b : Bool). b ≡ true → x ≤ high) (ltb x low) false (leb x high)
    (λ p q. absurd (true≢false (sym q)))
    (λ p q. leb-true x high q) e

pub between_true : (low high x : ℕ) → low ≤ x → x ≤ high → between low high x ≡ true
unfolding between pick
between_true low high x p q = rw (le-ltb x low p, le-leb x high q)

-- by cases of a test, keeping the equation
pub by_test : {P : Type 0} (b : Bool) → (b ≡ true → P) → (b ≡ false → P) → P
by_test true f g = f refl
by_test false f g = g refl

-- a place is the one in question, or another
pub by_place : {P : Type 0} (k n : ℕ) → (k ≡ n → P) → ((k ≡ n → ⊥) → P) → P
by_place k n f g = by_test (eqb k n) (λ q. f (eqb-true k n q)) (λ q. g (eqb-false k n q))

pub by_order : {P : Type 0} (k n : ℕ) → (k < n → P) → (n ≤ k → P) → P
by_order k n f g = by_test (ltb k n) (λ q. f (ltb-true k n q)) (λ q. g (ltb-false k n q))

-- the choice and the conjunction are the library's, kept folded
pub pick_cond : {A : Type 0} (b : Bool) (x y : A) → pick b x y ≡ cond b x y
unfolding pick
pick_cond true x y = refl
pick_cond false x y = refl

pub both_and : (a b : Bool) → both a b ≡ (a && b)
unfolding both pick
both_and true b = refl
both_and false b = refl

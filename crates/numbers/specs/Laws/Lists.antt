-- Laws of `line` and `each`, a turn of a loop at a time.
use Rattle.std.specs.Prelude.{ℕ, zero, suc, ◌+◌, ◌<◌, ◌≤◌, ◌≡◌, refl, List, [], ◌∷◌, ◌++◌, eqb, length, set}
use Rattle.std.proofs.Common.{sym, ap, ◌∙◌, add-zero, zero-add, le_refl, not-suc-le-zero, eqb-true, add-one, arith, length-append, length-set}
use Rattle.std.proofs.lemmas.Bool.{eqb-false}
use Rattle.std.proofs.lemmas.List.Edits.{sets}
use Rattle.numbers.specs.Lists.{line, each}
use Rattle.numbers.specs.Laws.Choice.{by_test}

pub line_none : {A : Type 0} (d : List A) (p : ℕ) (g : ℕ → A) → line d p g 0 ≡ d
unfolding line
line_none d p g = refl

pub line_more : {A : Type 0} (d : List A) (p : ℕ) (g : ℕ → A) (n : ℕ) → set (line d p g n) (p + n) (g n) ≡ line d p g (n + 1)
unfolding line
line_more d p g n = rw add-one

pub length_line : {A : Type 0} (d : List A) (p : ℕ) (g : ℕ → A) (n : ℕ) → length (line d p g n) ≡ length d
unfolding line
length_line d p g zero = refl
length_line d p g (suc n) = length-set (line d p g n) (p + n) (g n) ∙ length_line d p g n

pub each_none : {A : Type 0} (f : ℕ → List A) → each 0 f ≡ []
unfolding each
each_none f = refl

pub each_more : {A : Type 0} (n : ℕ) (f : ℕ → List A) → each (n + 1) f ≡ each n f ++ f n
unfolding each
each_more n f = rw add-one

pub length_each_more : {A : Type 0} (n : ℕ) (f : ℕ → List A) → length (each (n + 1) f) ≡ length (each n f) + length (f n)
length_each_more n f = rw (each_more n f) (length-append (each n f) (f n))

-- what stands before one of n joined lists, and that list, are no longer than the whole
pub each_fits : {A : Type 0} (n : ℕ) (f : ℕ → List A) (k : ℕ) → k < n → length (each k f) + length (f k) ≤ length (each n f)
unfolding each
each_fits zero f k h = absurd (not-suc-le-zero h)
each_fits (suc n) f k h =
    by_test (eqb k n) (λ q. rw (eqb-true k n q, length-append (each n f) (f n)) (le_refl _))
    (λ q.
    let d : k ≡ n → ⊥ = eqb-false k n q in
    let r : length (each k f) + length (f k) ≤ length (each n f) = each_fits n f k (omega arith) in
    rw (length-append (each n f) (f n)) (omega arith))

-- one run of stores after another
pub sets_append : {A : Type 0} (out : List A) (at : ℕ) (a b : List A) → sets (sets out at a) (at + length a) b ≡ sets out at (a ++ b)
sets_append out at [] b = rw add-zero
sets_append out at (x ∷ a) b =
    let e : at + suc (length a) ≡ suc at + length a = omega arith in
    rw e (sets_append (set out at x) (suc at) a b)

pub puts_after : {A : Type 0} (l0 : List A) (at : ℕ) (a b : List A) {l1 l2 : List A} → l1 ≡ sets l0 at a → l2 ≡ sets l1 (at + length a) b → l2 ≡ sets l0 at (a ++ b)
puts_after l0 at a b p q = q ∙ ap (λ (l : List _). sets l (at + length a) b) p ∙ sets_append l0 at a b

pub line_next : {A : Type 0} (d : List A) (g : ℕ → A) (n : ℕ) → set (line d 0 g n) n (g n) ≡ line d 0 g (n + 1)
line_next d g n = ap (λ (k : ℕ). set (line d 0 g n) k (g n)) (sym (zero-add n)) ∙ line_more d 0 g n

-- a loop that writes place after place: where it begins, and one turn
pub line_start : {A : Type 0} (d : List A) (g : ℕ → A) → d ≡ line d 0 g 0
line_start d g = sym (line_none d 0 g)

pub line_step : {A : Type 0} (d : List A) (g : ℕ → A) (n : ℕ) {ds : List A} {x : A} → ds ≡ line d 0 g n → x ≡ g n → set ds n x ≡ line d 0 g (n + 1)
line_step d g n p q = rw (p, q) (line_next d g n)

-- The order of differences, and of values raised by 2^32, so that none is below zero.
use Rattle.std.specs.Prelude.{◌≡◌, refl, Bool, true, false, cond, ℕ, suc, ◌+◌, ◌-◌, ◌<◌, ◌≤◌, ◌^◌, ltb, leb, pos, negsuc}
use Rattle.std.proofs.Common.{sym, ◌∙◌, arith, pow_mono, le-leb, leb-true, leb-false, ltb-true, ltb-false}
use Rattle.std.proofs.Math.IntN.{sub_ℕ}
use Rattle.std.specs.Int.Signed.{le_z}
use Rattle.std.proofs.lemmas.Bool.{lt-leb}
use Rattle.numbers.specs.Laws.Choice.{pick_case}
use Rattle.kinds.specs.Values.{negative, taken}
use Rattle.kinds.specs.Laws.Widths.{width_le}

pub taken_le : (kind x : ℕ) → taken kind x ≤ 2 ^ 32
unfolding taken
taken_le kind x = pick_case (λ (p : ℕ). p ≤ 2 ^ 32) (negative kind x) _ _ (λ e. pow_mono (width_le kind)) (λ e. omega arith)

-- two tests of orders that imply each other are equal
leb_same : (x y u v : ℕ) → (x ≤ y → u ≤ v) → (u ≤ v → x ≤ y) → leb x y ≡ leb u v
leb_same x y u v f g = go (leb x y) (leb u v) refl refl
  where
    go : (s t : Bool) → leb x y ≡ s → leb u v ≡ t → leb x y ≡ leb u v
    go true true p q = cc
    go true false p q = let h : u ≤ v = f (leb-true x y p) in absurd (omega (arith, leb-false u v q))
    go false true p q = let h : x ≤ y = g (leb-true u v q) in absurd (omega (arith, leb-false x y p))
    go false false p q = cc

-- the order of two differences is that of the sums
pub sub_order : (a b p q : ℕ) → le_z (sub_ℕ a p) (sub_ℕ b q) ≡ leb (a + q) (b + p)
sub_order a b p q = go (ltb a p) (ltb b q) refl refl
  where
    go : (s t : Bool) → ltb a p ≡ s → ltb b q ≡ t
        → le_z (cond s (negsuc (p - suc a)) (pos (a - p))) (cond t (negsuc (q - suc b)) (pos (b - q))) ≡ leb (a + q) (b + p)
    go true true e f =
        let l : a < p = ltb-true a p e in
        let m : b < q = ltb-true b q f in
        leb_same (q - suc b) (p - suc a) (a + q) (b + p) (λ h. omega arith) (λ h. omega arith)
    go true false e f =
        let l : a < p = ltb-true a p e in
        let m : q ≤ b = ltb-false b q f in
        sym (le-leb (a + q) (b + p) (omega arith))
    go false true e f =
        let l : p ≤ a = ltb-false a p e in
        let m : b < q = ltb-true b q f in
        sym (lt-leb (a + q) (b + p) (omega arith))
    go false false e f =
        let l : p ≤ a = ltb-false a p e in
        let m : q ≤ b = ltb-false b q f in
        leb_same (a - p) (b - q) (a + q) (b + p) (λ h. omega arith) (λ h. omega arith)

-- differences are in the order of the differences plus 2 ^ 32
pub raised_order : (a b p q : ℕ) → p ≤ 2 ^ 32 → q ≤ 2 ^ 32 → leb (a + (2 ^ 32 - p)) (b + (2 ^ 32 - q)) ≡ le_z (sub_ℕ a p) (sub_ℕ b q)
raised_order a b p q l m =
    leb_same (a + (2 ^ 32 - p)) (b + (2 ^ 32 - q)) (a + q) (b + p) (λ h. omega arith) (λ h. omega arith) ∙ sym (sub_order a b p q)

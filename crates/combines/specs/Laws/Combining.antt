-- Laws of combining and of the fold.
use Rattle.std.specs.Prelude.{◌≡◌, ℕ, zero, suc, ◌+◌, ◌^◌, ◌<◌, ◌≤◌}
use Rattle.std.proofs.Common.{ap₂, ◌∙◌, mod-lt, add-one, arith, pow_pos}
use Rattle.std.specs.Int.Bits.{and_lt}
use Rattle.std.proofs.lemmas.Nat.{or_lt, xor_lt}
use Rattle.std.specs.Int.Signed.{le_z}
use Rattle.numbers.specs.Laws.Choice.{pick_case}
use Rattle.kinds.specs.Widths.{width}
use Rattle.kinds.specs.Values.{value}
use Rattle.sheet.specs.declared.Combine.{Combine}
use Rattle.sheet.specs.declared.Combine.TheVariants.{Add, Min, Max, And, Or, Xor}
use Rattle.combines.specs.Combining.{combined, folded}

-- one more element
pub folded_more : (kind : ℕ) (op : Combine) (g : ℕ → ℕ) (t : ℕ) {all x r : ℕ} → all ≡ folded kind op g t → x ≡ g (t + 1) → r ≡ combined kind op all x → r ≡ folded kind op g (t + 1)
unfolding folded
folded_more kind op g t a b e = e ∙ ap₂ (combined kind op) a b ∙ rw add-one

-- folds of equal elements are equal
pub folded_same : (kind : ℕ) (op : Combine) (g h : ℕ → ℕ) (n : ℕ) → ((t : ℕ) → t ≤ n → g t ≡ h t) → folded kind op g n ≡ folded kind op h n
unfolding folded
folded_same kind op g h zero e = e 0 (omega arith)
folded_same kind op g h (suc n) e = ap₂ (combined kind op) (folded_same kind op g h n (λ t l. e t (omega arith))) (e (suc n) (omega arith))

-- elements that fit their kind combine to one that does
combined_fits : (kind : ℕ) (op : Combine) (a b : ℕ) → a < 2 ^ width kind → b < 2 ^ width kind → combined kind op a b < 2 ^ width kind
combined_fits kind Add a b p q = mod-lt (a + b) (pow_pos (width kind))
combined_fits kind Min a b p q = pick_case (λ (x : ℕ). x < 2 ^ width kind) (le_z (value kind a) (value kind b)) a b (λ e. p) (λ e. q)
combined_fits kind Max a b p q = pick_case (λ (x : ℕ). x < 2 ^ width kind) (le_z (value kind a) (value kind b)) b a (λ e. q) (λ e. p)
combined_fits kind And a b p q = and_lt (width kind) a b p q
combined_fits kind Or a b p q = or_lt (width kind) a b p q
combined_fits kind Xor a b p q = xor_lt (width kind) a b p q

pub folded_fits : (kind : ℕ) (op : Combine) (g : ℕ → ℕ) (n : ℕ) → ((t : ℕ) → t ≤ n → g t < 2 ^ width kind) → folded kind op g n < 2 ^ width kind
unfolding folded
folded_fits kind op g zero f = f 0 (omega arith)
folded_fits kind op g (suc n) f =
    combined_fits kind op (folded kind op g n) (g (suc n)) (folded_fits kind op g n (λ t l. f t (omega arith))) (f (suc n) (omega arith))

-- The sums that the code makes of listed components are the step's results.
use Rattle.std.specs.Prelude.{◌≡◌, List, ℕ, ◌+◌, ◌*◌, ◌<◌, ◌≤◌, ◌%◌, ◌^◌, ℤ, pos, ◌*ℤ◌, get_or}
use Rattle.std.proofs.Common.{sym, ap, ◌∙◌, mod-eq_of_lt, arith}
use Rattle.numbers.specs.Laws.Places.{places_given}
use Rattle.numbers.specs.Remainders.{remainder}
use Rattle.numbers.specs.Laws.Remainders.{remainder_lt}
use Rattle.kinds.specs.Widths.{bytes_of}
use Rattle.kinds.specs.Values.{value}
use Rattle.kinds.specs.Laws.Modulo.{remainder_sum, dot_more, sum_more}
use Rattle.kinds.specs.Laws.Sums.{products_same, sum_next}
use Rattle.sheet.specs.Sizes.{side_places}
use Rattle.sheet.specs.declared.VectorStep.{VectorStep}
use Rattle.memory.specs.Elements.{element_at}
use Rattle.vectors.specs.Components.{component_at}
use Rattle.vectors.specs.Results.{matrix_value, bias_at, product_to, result_at}
use Rattle.vectors.specs.Residues.{residue_at, components_of, listed, line_to}

-- a number below 2^32 is itself modulo 2^32
natural : {x n : ℕ} → x ≡ n → x < 2 ^ 32 → x ≡ remainder (pos n) (2 ^ 32)
natural e l = sym (mod-eq_of_lt l) ∙ ap (λ (k : ℕ). k % 2 ^ 32) e

-- one more product
pub line_next : (memory : List ℕ) (first across kind : ℕ) (xs : List ℕ) (n : ℕ) {sum x y : ℕ} → sum ≡ remainder (line_to memory first across kind (listed xs) n) (2 ^ 32)
    → x ≡ remainder (value kind (element_at memory (first + n * across) (bytes_of kind))) (2 ^ 32) → y ≡ get_or xs n 0 → y < 2 ^ 32
    → (sum + x * y) % 2 ^ 32 ≡ remainder (line_to memory first across kind (listed xs) (n + 1)) (2 ^ 32)
line_next memory first across kind xs n {sum} {x} {y} e f g l =
    dot_more (2 ^ 32) (omega arith) sum x y (line_to memory first across kind (listed xs) n) (value kind (element_at memory (first + n * across) (bytes_of kind))) (listed xs n) e f (natural g l)
    ∙ ap (λ (z : ℤ). remainder z (2 ^ 32)) (sum_next (λ (c : ℕ). value kind (element_at memory (first + c * across) (bytes_of kind)) *ℤ listed xs c) n)

-- and the bias
pub bias_next : (memory : List ℕ) (v : VectorStep) (g : ℕ → ℤ) (r : ℕ) {sum x : ℕ} → sum ≡ remainder (product_to memory v g r v.columns) (2 ^ 32)
    → x ≡ bias_at memory v r → x < 2 ^ 32 → (sum + x) % 2 ^ 32 ≡ result_at memory v g r
unfolding result_at
bias_next memory v g r {sum} {x} e f l = sum_more (2 ^ 32) (omega arith) sum x (product_to memory v g r v.columns) (pos (bias_at memory v r)) e (natural f l)

-- only the components below K count, and only modulo 2^32
pub result_same : (memory : List ℕ) (v : VectorStep) (g h : ℕ → ℤ) → ((c : ℕ) → c < v.columns → remainder (g c) (2 ^ 32) ≡ remainder (h c) (2 ^ 32))
    → (r : ℕ) → result_at memory v g r ≡ result_at memory v h r
unfolding result_at
result_same memory v g h e r =
    remainder_sum (2 ^ 32) (omega arith) (product_to memory v g r v.columns) (pos (bias_at memory v r))
    ∙ ap (λ (n : ℕ). (n + remainder (pos (bias_at memory v r)) (2 ^ 32)) % 2 ^ 32)
    (products_same (2 ^ 32) (omega arith) (λ (c : ℕ). matrix_value memory v r c) g h v.columns e)
    ∙ sym (remainder_sum (2 ^ 32) (omega arith) (product_to memory v h r v.columns) (pos (bias_at memory v r)))

-- the components that the code lists are those of the input, so what is made of them is the step's
pub listed_result : (es memory : List ℕ) (kind : ℕ) (v : VectorStep) → v.columns ≤ side_places
    → (r : ℕ) → result_at memory v (listed (components_of es kind v)) r ≡ result_at memory v (component_at es kind v) r
unfolding components_of
listed_result es memory kind v h =
    result_same memory v (listed (components_of es kind v)) (component_at es kind v)
    (λ c l.
    ap (λ (n : ℕ). n % 2 ^ 32) (places_given side_places 0 0 (residue_at es kind v) v.columns h c l)
    ∙ mod-eq_of_lt (remainder_lt (component_at es kind v c) (omega arith)))

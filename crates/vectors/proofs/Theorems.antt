-- What vector steps promise.
use Rattle.std.specs.Prelude.{◌≡◌, true, false, List, ℕ, ◌+◌, ◌<◌, ◌≤◌, ◌%◌, ◌^◌, ℤ, pos, ◌+ℤ◌}
use Rattle.std.proofs.Common.{sym, ap, ◌∙◌, arith, ltb-true, ltb-false}
use Rattle.std.specs.Int.Signed.{le_z}
use Rattle.numbers.specs.Choice.{pick}
use Rattle.numbers.specs.Laws.Choice.{by_test}
use Rattle.numbers.specs.Laws.First.{first_before, first_passes}
use Rattle.numbers.specs.Remainders.{remainder}
use Rattle.kinds.specs.Widths.{word_kind, width}
use Rattle.kinds.specs.Laws.Widths.{word_width}
use Rattle.kinds.specs.Values.{negative, taken, value}
use Rattle.kinds.specs.Interpretations.{packed}
use Rattle.kinds.specs.Laws.Modulo.{remainder_sum, remainder_sub}
use Rattle.kinds.specs.Laws.Raised.{taken_le}
use Rattle.refusals.specs.Refusals.{outside_memory, stop_at}
use Rattle.sheet.specs.declared.VectorStep.{VectorStep}
use Rattle.registers.specs.Registers.{element_of}
use Rattle.registers.specs.declared.MatrixType.{MatrixType}
use Rattle.vectors.specs.Places.{size_of, matrix_byte, bias_size, bias_byte, elements_of, end_of}
use Rattle.vectors.specs.Refusals.{outside, vector_refusal}
use Rattle.vectors.specs.Saturation.{lowest, highest, saturated}
use Rattle.vectors.specs.Components.{packed_byte, packed_kind, component_at}
use Rattle.vectors.specs.Results.{bias_at, product_to, result_at, vector_result}
use Rattle.vectors.proofs.Laws.Refusals.{first_is, accepted_inside}
use Rattle.vectors.proofs.Laws.Saturation.{saturated_low, saturated_high, saturated_same, saturated_above, saturated_below, value_low, value_high}
use Rattle.vectors.proofs.Laws.Results.{result_same}

-- 14 names the first element outside, in order
module _ (t : MatrixType) (memory : ℕ) (v : VectorStep) (e : ℕ) (h : vector_refusal t memory v ≡ stop_at outside_memory e) where
  -- its bytes don't all lie in memory
  pub refused_outside : memory < end_of v e
  refused_outside =
      let f = first_is t memory v e h in
      ltb-true _ _ (rw f.0 at (first_passes (outside v memory) 0 (elements_of v) (rw f.0 (omega (arith, f.1)))))

  -- and those of each earlier one do
  pub earlier_inside : (k : ℕ) → k < e → end_of v k ≤ memory
  earlier_inside k l =
      ltb-false _ _ (first_before (outside v memory) 0 (elements_of v) k (omega arith) (rw (first_is t memory v e h).0 l))

-- A step that is not refused has every matrix element and, if there is a bias, every bias element inside: its bytes lie in memory.
module _ (t : MatrixType) (memory : ℕ) (v : VectorStep) (ok : (vector_refusal t memory v).number ≡ 0) where
  pub matrix_inside : (r c : ℕ) → r < v.rows → c < v.columns → matrix_byte v r c + size_of v ≤ memory
  matrix_inside r c l h = ((accepted_inside t memory v ok).row r l).at c h

  pub bias_inside : v.biased ≡ true → (i : ℕ) → i < v.rows → bias_byte v i + bias_size ≤ memory
  bias_inside b i l = (accepted_inside t memory v ok).bias i l b

-- Components of a plain interpretation:
module _ (es : List ℕ) (kind : ℕ) (v : VectorStep) (plain : packed v.interpretation ≡ false) (c : ℕ) where
  abbrev input : ℤ
  input = value kind (element_of es v.input c)

  converted : component_at es kind v c ≡ saturated v.interpretation input
  unfolding component_at pick
  converted = rw plain

  -- each lies in the interpretation's range
  pub component_low : le_z (lowest v.interpretation) (component_at es kind v c) ≡ true
  component_low = rw converted (saturated_low v.interpretation input)

  pub component_high : le_z (component_at es kind v c) (highest v.interpretation) ≡ true
  component_high = rw converted (saturated_high v.interpretation input)

  -- and is the element's value itself where that is in range
  pub component_same : le_z (lowest v.interpretation) input ≡ true → le_z input (highest v.interpretation) ≡ true → component_at es kind v c ≡ input
  component_same l h = converted ∙ saturated_same v.interpretation input l h

  -- one above the interpretation's highest value gives the highest
  pub component_above : le_z input (highest v.interpretation) ≡ false → component_at es kind v c ≡ highest v.interpretation
  component_above h = converted ∙ saturated_above v.interpretation input h

  -- and one below its lowest the lowest
  pub component_below : le_z (lowest v.interpretation) input ≡ false → component_at es kind v c ≡ lowest v.interpretation
  component_below l = converted ∙ saturated_below v.interpretation input l

  -- a value stays as it is where the register's kind is the interpretation
  pub component_exact : kind ≡ v.interpretation → element_of es v.input c < 2 ^ width kind → component_at es kind v c ≡ input
  component_exact e h = component_same (rw (← e) (value_low kind (element_of es v.input c) h)) (rw (← e) (value_high kind (element_of es v.input c) h))

-- unused components of the last word are ignored: registers that agree in the bytes of the components below K give the same result
pub unused_ignored : (es ds : List ℕ) (kind : ℕ) (memory : List ℕ) (v : VectorStep) → packed v.interpretation ≡ true
    → ((c : ℕ) → c < v.columns → packed_byte es v c ≡ packed_byte ds v c)
    → (i j : ℕ) → vector_result es kind memory v i j ≡ vector_result ds kind memory v i j
unfolding component_at pick
unused_ignored es ds kind memory v p e i j =
    result_same memory v (component_at es kind v) (component_at ds kind v)
    (λ c l. ap (λ (z : ℤ). remainder z (2 ^ 32)) (word es c ∙ ap (value (packed_kind v.interpretation)) (e c l) ∙ sym (word ds c))) i
  where
    word : (xs : List ℕ) (c : ℕ) → component_at xs kind v c ≡ value (packed_kind v.interpretation) (packed_byte xs v c)
    word xs c = rw p

-- the value of 32 raw bits by either sign, added to an integer
raw : (kind x : ℕ) (z : ℤ) → width kind ≡ 32 → remainder (z +ℤ value kind x) (2 ^ 32) ≡ remainder (z +ℤ pos x) (2 ^ 32)
unfolding value taken pick
raw kind x z w =
    remainder_sum (2 ^ 32) (omega arith) z (value kind x)
    ∙ ap (λ (n : ℕ). (remainder z (2 ^ 32) + n) % 2 ^ 32)
    (remainder_sub (2 ^ 32) (omega arith) x (taken kind x) (taken_le kind x) ∙ by_test (negative kind x) (λ e. rw (e, w) (omega arith)) (λ e. rw e (omega arith)))
    ∙ sym (remainder_sum (2 ^ 32) (omega arith) z (pos x))

-- bias is raw: read by the sign of either kind of 32 bits it gives the same result
pub bias_raw : (es : List ℕ) (kind : ℕ) (memory : List ℕ) (v : VectorStep) (sign : ℕ) → word_kind sign ≡ true → (i j : ℕ)
    → vector_result es kind memory v i j ≡ remainder (product_to memory v (component_at es kind v) i v.columns +ℤ value sign (bias_at memory v i)) (2 ^ 32)
unfolding result_at
bias_raw es kind memory v sign w i j = sym (raw sign (bias_at memory v i) (product_to memory v (component_at es kind v) i v.columns) (word_width sign w))

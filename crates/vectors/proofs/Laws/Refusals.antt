-- What is known of a step that is not refused, and of the element that 14 names.
use Rattle.std.proofs.Math.Path.{◌≡◌, ap}
use Rattle.std.proofs.Common.{sym, ◌∙◌, true≢false, zero-add, arith}
use Rattle.std.specs.Prelude.{Bool, true, false, ℕ, ◌<◌, ◌≤◌, ltb}
use borrow.Author.Tests.{lt-ltb, le-ltb, ltb-true, ltb-false}
use Rattle.numbers.specs.Choice.{pick}
use Rattle.numbers.specs.Laws.Choice.{by_test, by_order}
use Rattle.numbers.specs.First.{first_from}
use Rattle.numbers.specs.Laws.First.{first_none, first_before, first_passes}
use Rattle.refusals.specs.Refusals.{empty_register, shapes_disagree, outside_memory, stop_at}
use Rattle.refusals.specs.declared.Stop.{Stop}
use Rattle.sheet.specs.declared.VectorStep.{VectorStep}
use Rattle.registers.specs.Types.{is_empty}
use Rattle.registers.specs.Laws.Grids.{row_end}
use Rattle.registers.specs.declared.MatrixType.{MatrixType}
use Rattle.vectors.specs.Places.{elements_of, end_of}
use Rattle.vectors.specs.Refusals.{input_agrees, outside, first_outside, memory_refusal, vector_refusal}
use Rattle.vectors.specs.Within.{Inside, last_inside}
use Rattle.vectors.proofs.Laws.Reach.{all_inside, matrix_end, bias_end, matrix_among, bias_among}

-- the first number below n that passes a test
first_at : (test : ℕ → Bool) (n e : ℕ) → e < n → test e ≡ true → ((k : ℕ) → k < e → test k ≡ false) → first_from test 0 n ≡ e
first_at test n e l here before =
    by_order (first_from test 0 n) e
    (λ m. absurd (true≢false (sym (first_passes test 0 n (omega arith)) ∙ before _ m)))
    (λ m.
    by_order e (first_from test 0 n)
    (λ o. absurd (true≢false (sym here ∙ first_before test 0 n e (omega arith) o)))
    (λ o. omega arith))

-- the first element outside is one that is, with none before it
pub memory_stop : (v : VectorStep) (memory e : ℕ) → e < elements_of v → outside v memory e ≡ true → ((k : ℕ) → k < e → outside v memory k ≡ false)
    → memory_refusal v memory ≡ stop_at outside_memory e
unfolding memory_refusal pick
memory_stop v memory e l here before =
    let f : first_outside v memory ≡ e = first_at (outside v memory) (elements_of v) e l here before in
    rw (f, lt-ltb e (elements_of v) l)

-- and where there is none, the step is not refused
pub memory_passes : (v : VectorStep) (memory : ℕ) → ((k : ℕ) → k < elements_of v → outside v memory k ≡ false) → memory_refusal v memory ≡ stop_at 0 0
unfolding memory_refusal pick
memory_passes v memory none =
    let e : first_outside v memory ≡ elements_of v = first_none (outside v memory) 0 (elements_of v) (λ i l u. none i (omega arith)) ∙ zero-add (elements_of v) in
    rw (le-ltb (first_outside v memory) (elements_of v) (omega arith))

-- as where the last ones are inside
pub memory_clear : (v : VectorStep) (memory : ℕ) → last_inside v memory ≡ true → memory_refusal v memory ≡ stop_at 0 0
memory_clear v memory h = memory_passes v memory (all_inside v memory h)

-- 14 names the first element outside
module _ (t : MatrixType) (memory : ℕ) (v : VectorStep) (e : ℕ) (h : vector_refusal t memory v ≡ stop_at outside_memory e) where
  by_memory : memory_refusal v memory ≡ stop_at outside_memory e
  unfolding vector_refusal pick
  by_memory =
      by_test (is_empty t) (λ a. absurd (other empty_register (λ d. omega arith) (rw a at h)))
      (λ a. by_test (input_agrees t v) (λ b. rw (a, b) at h) (λ b. absurd (other shapes_disagree (λ d. omega arith) (rw (a, b) at h))))
    where
      other : (n : ℕ) → (n ≡ outside_memory → ⊥) → stop_at n 0 ≡ stop_at outside_memory e → ⊥
      other n d z = d (ap (λ (x : Stop). x.number) z)

  pub first_is : (first_outside v memory ≡ e) × (e < elements_of v)
  unfolding memory_refusal pick
  first_is =
      by_test (ltb (first_outside v memory) (elements_of v))
      (λ b.
      let z : stop_at outside_memory (first_outside v memory) ≡ stop_at outside_memory e = rw b at by_memory in
      let d : first_outside v memory ≡ e = ap (λ (x : Stop). x.element) z in
      (d, rw d at (ltb-true (first_outside v memory) (elements_of v) b)))
      (λ b.
      let z : stop_at 0 0 ≡ stop_at outside_memory e = rw b at by_memory in
      let d : ◌≡◌ {A = ℕ} 0 outside_memory = ap (λ (x : Stop). x.number) z in
      absurd (omega arith))

-- Of a step that is not refused:
module _ (t : MatrixType) (memory : ℕ) (v : VectorStep) (ok : (vector_refusal t memory v).number ≡ 0) where
  clear : (memory_refusal v memory).number ≡ 0
  unfolding vector_refusal pick
  clear =
      by_test (is_empty t) (λ e. let z : ◌≡◌ {A = ℕ} empty_register 0 = rw e at ok in absurd (omega arith))
      (λ e.
      by_test (input_agrees t v) (λ f. rw (e, f) at ok)
      (λ f. let z : ◌≡◌ {A = ℕ} shapes_disagree 0 = rw (e, f) at ok in absurd (omega arith)))

  none_outside : elements_of v ≤ first_outside v memory
  unfolding memory_refusal pick
  none_outside =
      by_test (ltb (first_outside v memory) (elements_of v)) (λ e. let z : ◌≡◌ {A = ℕ} outside_memory 0 = rw e at clear in absurd (omega arith))
      (λ e. ltb-false _ _ e)

  inside : (e : ℕ) → e < elements_of v → end_of v e ≤ memory
  inside e l = ltb-false _ _ (first_before (outside v memory) 0 (elements_of v) e (omega arith) (omega (arith, none_outside)))

  -- the bytes of its matrix and of its bias lie in memory
  pub accepted_inside : Inside v memory
  accepted_inside =
      record {
        row = λ r l. record { at = λ c h. rw (matrix_end v r c l h) at (inside _ (matrix_among v _ (row_end r v.rows v.columns c l h))) };
        bias = λ i l b. rw (bias_end v i) at (inside _ (bias_among v i b l));
      }

-- Rule 3 at a dimension: what is skipped changes nothing.
use Rattle.std.specs.Prelude.{ℕ, ◌/◌, ◌%◌, ◌<◌, ◌≤◌, ◌≡◌, refl}
use Rattle.std.proofs.Math.Path.{sym}
use Rattle.std.proofs.Math.Bool.{false}
use Rattle.std.proofs.Math.Nat.{zero-mod, zero-div, mod-one}
use Rattle.std.proofs.Common.{div-one, arith}
use Rattle.std.proofs.Math.Dec.{ltb}
use borrow.Author.Tests.{ltb-false}
use Rattle.numbers.specs.Choice.{pick, both}
use Rattle.numbers.specs.Laws.Choice.{pick_case, by_test}
use Rattle.spans.specs.declared.Split.{Split}
use Rattle.spans.specs.Spans.{divides, split_by}

-- where there is no division, one would leave the same
module _ (span index : ℕ) (some : 0 < span) (none : divides span index ≡ false) where
  by_none : (P : ℕ → ℕ → Type 0) → P 1 index → P span 0 → P span index
  unfolding divides both pick
  by_none P one none_left =
      by_test (ltb 1 span)
      (λ t. let e : ltb 0 index ≡ false = rw t at none in let z : index ≡ 0 = omega (arith, ltb-false 0 index e) in rw z none_left)
      (λ t. let z : span ≡ 1 = omega (arith, ltb-false 1 span t) in rw z one)

  rest_undivided : index % span ≡ 0
  rest_undivided = by_none (λ (s i : ℕ). i % s ≡ 0) (mod-one index) (zero-mod span)

  quotient_undivided : index / span ≡ index
  quotient_undivided = by_none (λ (s i : ℕ). i / s ≡ i) (div-one index) (zero-div span)

module _ {span : ℕ} (index : ℕ) (some : 0 < span) where
  pub split_rest : (split_by span index).rest ≡ index % span
  unfolding split_by
  split_rest = pick_case (λ (s : Split). s.rest ≡ index % span) (divides span index) _ _ (λ t. refl) (λ t. sym (rest_undivided span index some t))

  pub split_quotient : (split_by span index).quotient ≡ index / span
  unfolding split_by
  split_quotient =
      pick_case (λ (s : Split). s.quotient ≡ index / span) (divides span index) _ _ (λ t. refl) (λ t. sym (quotient_undivided span index some t))

module _ (span index : ℕ) where
  pub split_count : (split_by span index).divisions ≡ pick (divides span index) 1 0
  unfolding split_by pick
  split_count = by_test (divides span index) (λ t. rw t) (λ t. rw t)

  pub split_most : (split_by span index).divisions ≤ 1
  unfolding split_by
  split_most = pick_case (λ (s : Split). s.divisions ≤ 1) (divides span index) _ _ (λ t. omega arith) (λ t. omega arith)

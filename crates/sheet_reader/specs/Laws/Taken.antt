-- What is known of a field that is taken.
use Prim.Native.Nat.{ℕ, suc, ◌<◌, ◌≤◌}
use Rattle.std.specs.Prelude.{◌≡◌, refl, Bool, true, false, List, get_or, eqb, ltb}
use Rattle.std.proofs.Common.{arith}
use borrow.Author.Tests.{eqb-true, ltb-true, ltb-false}
use Rattle.numbers.specs.Choice.{pick}
use Rattle.numbers.specs.Laws.Choice.{both_right, pick_case}
use Rattle.sheet.specs.Sizes.{layout_places, view_places, step_places}
use Rattle.sheet.specs.Editions.{edition_ok, tag_known, limits}
use Rattle.sheet.specs.Laws.Editions.{limits_steps}
use Rattle.sheet.specs.Codes.{edition_tag, layout_tag, view_tag, fill_tag, last_step_tag}
use Rattle.tensor_ranges.specs.Layouts.{layout_ok}
use Rattle.tensor_ranges.specs.Views.{view_ok}
use Rattle.sheet_ranges.specs.Steps.{step_ok}
use Rattle.contents.specs.Contents.{layout_at, layout_length_ok, layout_head_ok, view_at, view_length_ok, view_head_ok}
use Rattle.step_contents.specs.Contents.{step_at, step_length}
use Rattle.sheet_reader.specs.Reading.{layout_may_come, view_may_come, step_may_come, edition_refusal, layout_refusal, view_refusal, step_refusal, field_refusal}
use Rattle.sheet_reader.specs.declared.Given.{Given}

-- what is not refused went the way without a refusal
pub taken_way : (t : Bool) (x n : ℕ) → 0 < n → pick t x n ≡ 0 → (t ≡ true) × (x ≡ 0)
unfolding pick
taken_way true x n h e = (refl, e)
taken_way false x n h e = absurd (omega arith)

left_way : (t : Bool) (n x : ℕ) → 0 < n → pick t n x ≡ 0 → (t ≡ false) × (x ≡ 0)
unfolding pick
left_way true n x h e = absurd (omega arith)
left_way false n x h e = (refl, e)

module _ (s : List ℕ) (p len : ℕ) (g : Given) where
  pub record EditionTaken : Type 0 where
    pub first : g.edition ≤ 0
    pub one : len ≡ 1
    pub known : edition_ok (get_or s p 0) ≡ true

  pub record LayoutTaken : Type 0 where
    pub may : layout_may_come g ≡ true
    pub long : layout_length_ok len ≡ true
    pub head : layout_head_ok s p len ≡ true
    pub ok : layout_ok (layout_at s p) ≡ true

  pub record ViewTaken : Type 0 where
    pub may : view_may_come g ≡ true
    pub long : view_length_ok len ≡ true
    pub head : view_head_ok s p len ≡ true
    pub ok : view_ok (view_at s p) ≡ true

  pub record StepTaken (tag : ℕ) : Type 0 where
    pub known : tag_known g.edition tag ≡ true
    pub may : step_may_come g ≡ true
    pub long : len ≡ step_length g.edition tag
    pub ok : step_ok g.edition g.layouts g.views (step_at g.edition s tag p) ≡ true

  pub edition_taken : edition_refusal s p len g ≡ 0 → EditionTaken
  unfolding edition_refusal
  edition_taken e =
      let a = left_way _ _ _ (omega arith) e in
      let b = taken_way _ _ _ (omega arith) a.1 in
      let c = taken_way _ _ _ (omega arith) b.1 in
      record { first = ltb-false _ _ a.0; one = eqb-true _ _ b.0; known = c.0 }

  pub layout_taken : layout_refusal s p len g ≡ 0 → LayoutTaken
  unfolding layout_refusal
  layout_taken e =
      let a = taken_way _ _ _ (omega arith) e in
      let b = taken_way _ _ _ (omega arith) a.1 in
      let c = taken_way _ _ _ (omega arith) b.1 in
      let d = taken_way _ _ _ (omega arith) c.1 in
      record { may = a.0; long = b.0; head = c.0; ok = d.0 }

  pub view_taken : view_refusal s p len g ≡ 0 → ViewTaken
  unfolding view_refusal
  view_taken e =
      let a = taken_way _ _ _ (omega arith) e in
      let b = taken_way _ _ _ (omega arith) a.1 in
      let c = taken_way _ _ _ (omega arith) b.1 in
      let d = taken_way _ _ _ (omega arith) c.1 in
      record { may = a.0; long = b.0; head = c.0; ok = d.0 }

  pub step_taken : (tag : ℕ) → step_refusal s tag p len g ≡ 0 → StepTaken tag
  unfolding step_refusal
  step_taken tag e =
      let a = taken_way _ _ _ (omega arith) e in
      let b = taken_way _ _ _ (omega arith) a.1 in
      let c = taken_way _ _ _ (omega arith) b.1 in
      let d = taken_way _ _ _ (omega arith) c.1 in
      record { known = a.0; may = b.0; long = eqb-true _ _ c.0; ok = d.0 }

  -- by its tag
  pub data Took (tag : ℕ) : Type 0 where
    edition : tag ≡ edition_tag → EditionTaken → Took tag
    layout : tag ≡ layout_tag → LayoutTaken → Took tag
    view : tag ≡ view_tag → ViewTaken → Took tag
    step : fill_tag ≤ tag → tag ≤ last_step_tag → StepTaken tag → Took tag

  pub took : (tag : ℕ) → field_refusal s tag p len g ≡ 0 → Took tag
  unfolding field_refusal
  took tag =
      pick_case To (eqb tag edition_tag) _ _ (λ q e. edition (eqb-true _ _ q) (edition_taken e))
      (λ q1.
      pick_case To (eqb tag layout_tag) _ _ (λ q e. layout (eqb-true _ _ q) (layout_taken e))
      (λ q2.
      pick_case To (eqb tag view_tag) _ _ (λ q e. view (eqb-true _ _ q) (view_taken e))
      (λ q3.
      pick_case To (ltb tag fill_tag) _ _ (λ q e. absurd (omega arith))
      (λ q4. pick_case To (ltb tag (suc last_step_tag)) _ _
      (λ q e. let h = ltb-true tag (suc last_step_tag) q in step (ltb-false _ _ q4) (omega arith) (step_taken tag e))
      (λ q e. absurd (omega arith))))))
    where
      To : ℕ → Type 0
      To n = n ≡ 0 → Took tag

-- what may come has a place
pub layout_place : (g : Given) → layout_may_come g ≡ true → g.layouts < layout_places
unfolding layout_may_come
layout_place g e = ltb-true _ _ (both_right _ _ (both_right _ _ (both_right _ _ e)))

pub view_place : (g : Given) → view_may_come g ≡ true → g.views < view_places
unfolding view_may_come
view_place g e = ltb-true _ _ (both_right _ _ (both_right _ _ e))

pub step_place : (g : Given) → step_may_come g ≡ true → g.steps < step_places
unfolding step_may_come
step_place g e =
    let h : g.steps < (limits g.edition).steps = ltb-true _ _ (both_right _ _ e) in
    omega (arith, limits_steps g.edition)

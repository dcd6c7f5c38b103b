-- The step that a record names is looked up once, where it names one of the sheet's.
use Rattle.std.specs.Prelude.{ℕ, ◌<◌, ◌≤◌, ◌≡◌, true, false, List, ltb}
use Rattle.std.proofs.Math.Path.{refl}
use Rattle.std.proofs.Common.{sym, ap, subst, ◌∙◌, true≢false, ltb-true, lt-ltb, le-ltb}
use Rattle.numbers.specs.Choice.{pick, both}
use Rattle.numbers.specs.Laws.Choice.{pick_case, both_right, by_order}
use Rattle.sheet_ranges.specs.Steps.{the_step, step_ok, step_unused}
use Rattle.sheet_ranges.specs.Laws.Within.{Within}
use Rattle.sheet.specs.declared.Sheet.{Sheet}
use Rattle.sheet.specs.declared.Step.{Step}
use Rattle.sheet.specs.declared.Step.TheVariants as step
use Rattle.sheet_reader.specs.Parts.{sheet_of, Outlined}
use Rattle.sheet_reader.specs.declared.Given.{Given}
use Rattle.sheet_parts.specs.Laws.{outlined_within}
use Rattle.registers.specs.declared.MatrixType.{MatrixType}
use Rattle.checking.specs.Steps.{step_types}
use Rattle.checking.specs.Laws.Met.{all_steps, the_edition}
use Rattle.records.specs.declared.Decoded.{Decoded}
use Rattle.records.specs.declared.Decoded.TheVariants.{Good, Bad}
use Rattle.records.specs.declared.Record.TheVariants.{Copy, Take, Put, Fill, Whole}
use Rattle.judging.specs.Records.{step_of, whole_clear, whole_record_ok}
use Rattle.judging.specs.Judging.{decoded_step, decoded_ok_with, decoded_ok, decoded_types_with, decoded_types}
use Rattle.judging.specs.Laws.Records.{whole_named}

-- a step that keeps to Sizes, or nothing
pub record Placed (edition : ℕ) (st : Step) : Type 0 where
  pub layouts : ℕ
  pub views : ℕ
  pub ok : step_unused st ≡ false → step_ok edition layouts views st ≡ true

nothing_placed : (edition : ℕ) → Placed edition step.Nothing
nothing_placed edition = record { layouts = 0; views = 0; ok = λ u. absurd (true≢false u) }

-- a step that the sheet has is the one that is looked up
pub step_is : (sh : Sheet) (k : ℕ) → k < sh.steps → step_of sh k ≡ the_step sh.step k
unfolding step_of pick
step_is sh k h = rw (lt-ltb k sh.steps h)

step_no : (sh : Sheet) (k : ℕ) → sh.steps ≤ k → step.Nothing ≡ step_of sh k
unfolding step_of pick
step_no sh k h = rw (le-ltb k sh.steps h)

module _ {s parts : List ℕ} {g : Given} (o : Outlined s parts g) {k : ℕ} where
  pub step_taken : k < g.steps → {r : Step} → r ≡ the_step (sheet_of s).step k → r ≡ step_of (sheet_of s) k
  step_taken h e = e ∙ sym (step_is (sheet_of s) k (subst (λ (n : ℕ). k < n) (all_steps o) h))

  pub step_none : g.steps ≤ k → step.Nothing ≡ step_of (sheet_of s) k
  step_none h = step_no (sheet_of s) k (subst (λ (n : ℕ). n ≤ k) (all_steps o) h)

-- what is looked up is placed
module _ (sh : Sheet) (w : Within sh) where
  step_placed : (k : ℕ) → Placed sh.edition (step_of sh k)
  unfolding step_of
  step_placed k =
      pick_case (Placed sh.edition) (ltb k sh.steps) (the_step sh.step k) step.Nothing
      (λ h. record { layouts = sh.tensors.layouts; views = sh.tensors.views; ok = λ u. w.step.given k (ltb-true k sh.steps h) })
      (λ h. nothing_placed sh.edition)

  decoded_placed : (d : Decoded) → Placed sh.edition (decoded_step sh d)
  decoded_placed (Good (Copy register object)) = nothing_placed sh.edition
  decoded_placed (Good (Take register first count byte up down)) = nothing_placed sh.edition
  decoded_placed (Good (Put register first count byte up down)) = nothing_placed sh.edition
  decoded_placed (Good (Fill register first count value)) = nothing_placed sh.edition
  decoded_placed (Good (Whole k)) = step_placed k
  decoded_placed Bad = nothing_placed sh.edition

-- a whole step is no unused place
clear_used : (edition : ℕ) (ts : List MatrixType) (len : ℕ) (st : Step) → whole_clear edition ts len st ≡ true → step_unused st ≡ false
clear_used edition ts len step.Nothing e = sym e
clear_used edition ts len (step.Load register object window) e = refl
clear_used edition ts len (step.Store register window) e = refl
clear_used edition ts len (step.Whole whole) e = refl

pub whole_used : (edition steps : ℕ) (ts : List MatrixType) (len : ℕ) (named : Step) (k : ℕ) → whole_record_ok edition steps ts len named k ≡ true → step_unused named ≡ false
unfolding whole_record_ok
whole_used edition steps ts len named k e = clear_used edition ts len named (both_right _ _ e)

-- with it a record is in range exactly where it is with the sheet, and it leaves the same types
module _ (sh : Sheet) (ts : List MatrixType) (len : ℕ) where
  ok_there : (d : Decoded) → decoded_ok_with sh.edition sh.steps ts len (decoded_step sh d) d ≡ decoded_ok sh ts len d
  unfolding whole_record_ok both step_of pick
  ok_there (Good (Copy register object)) = refl
  ok_there (Good (Take register first count byte up down)) = refl
  ok_there (Good (Put register first count byte up down)) = refl
  ok_there (Good (Fill register first count value)) = refl
  ok_there (Good (Whole k)) = by_order k sh.steps (λ h. rw (lt-ltb k sh.steps h)) (λ h. rw (le-ltb k sh.steps h))
  ok_there Bad = refl

  types_there : (d : Decoded) → decoded_ok sh ts len d ≡ true → decoded_types_with ts (decoded_step sh d) d ≡ decoded_types sh ts d
  types_there (Good (Copy register object)) e = refl
  types_there (Good (Take register first count byte up down)) e = refl
  types_there (Good (Put register first count byte up down)) e = refl
  types_there (Good (Fill register first count value)) e = refl
  types_there (Good (Whole k)) e = ap (step_types ts) (step_is sh k (whole_named sh ts len k e).given)
  types_there Bad e = refl

-- the same of what the code looks up
module _ {s parts : List ℕ} {g : Given} (o : Outlined s parts g) (d : Decoded) {named : Step} (so : named ≡ decoded_step (sheet_of s) d) where
  pub named_placed : Placed g.edition named
  named_placed =
      subst (λ (e : ℕ). Placed e named) (sym (the_edition o))
      (subst (Placed (sheet_of s).edition) (sym so) (decoded_placed (sheet_of s) (outlined_within o) d))

  module _ (ts : List MatrixType) (len : ℕ) where
    pub named_ok : decoded_ok_with g.edition g.steps ts len named d ≡ decoded_ok (sheet_of s) ts len d
    named_ok =
        ap (λ (x : Given). decoded_ok_with x.edition x.steps ts len named d) o.given
        ∙ ap (λ (x : Step). decoded_ok_with (sheet_of s).edition (sheet_of s).steps ts len x d) so
        ∙ ok_there (sheet_of s) ts len d

    pub named_types : decoded_ok (sheet_of s) ts len d ≡ true → decoded_types_with ts named d ≡ decoded_types (sheet_of s) ts d
    named_types e = ap (λ (x : Step). decoded_types_with ts x d) so ∙ types_there (sheet_of s) ts len d e

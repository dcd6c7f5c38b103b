-- Reading goes by turns: what each turn gives, by the ways that it can go.
use Rattle.std.specs.Prelude.{ℕ, suc, ◌+◌, ◌-◌, ◌≤◌, ◌<◌, ◌≡◌, List, length, get_or}
use Rattle.std.proofs.Common.{ap, ◌∙◌, arith}
use borrow.Author.Tests.{le-ltb, lt-ltb, eq-eqb, ne_eqb}
use Rattle.numbers.specs.Choice.{pick}
use Rattle.refusals.specs.Refusals.{cut_short}
use Rattle.sheet.specs.Codes.{edition_tag, layout_tag, view_tag}
use Rattle.sheet.specs.declared.Layout.{Layout}
use Rattle.sheet.specs.declared.View.{View}
use Rattle.sheet.specs.declared.Step.{Step}
use Rattle.sheet.specs.declared.Tensors.{Tensors}
use Rattle.sheet.specs.declared.Sheet.{Sheet}
use Rattle.fields.specs.Fields.{field_at}
use Rattle.fields.specs.declared.Cursor.{Cursor}
use Rattle.fields.specs.declared.Field.TheVariants.{Whole, Short}
use Rattle.contents.specs.Contents.{layout_at, view_at}
use Rattle.step_contents.specs.Contents.{step_at}
use Rattle.sheet_reader.specs.Reading.{given_of, field_refusal, with_edition, more_layout, more_view, with_tensors, with_step, with_field, refused_read, end_read, over, on, turn_field, turn, after_turn, read_from}
use Rattle.sheet_reader.specs.declared.ReadAnswer.{ReadAnswer}

pred_suc : (n : ℕ) → 0 < n → n ≡ suc (n - 1)
pred_suc n h = omega arith

module _ (s : List ℕ) (at : ℕ) (sh : Sheet) where
  on_suc : (f : ℕ) {at' : ℕ} {sh' : Sheet} → turn s at sh ≡ on at' sh' → read_from (suc f) s at sh ≡ read_from f s at' sh'
  unfolding read_from after_turn
  on_suc f e = rw e

  over_suc : (f : ℕ) {r : ReadAnswer} → turn s at sh ≡ over r → read_from (suc f) s at sh ≡ r
  unfolding read_from after_turn
  over_suc f e = rw e

  pub turn_on : (f : ℕ) {at' : ℕ} {sh' : Sheet} → 0 < f → turn s at sh ≡ on at' sh' → read_from f s at sh ≡ read_from (f - 1) s at' sh'
  turn_on f h e = ap (λ (n : ℕ). read_from n s at sh) (pred_suc f h) ∙ on_suc (f - 1) e

  pub turn_over : (f : ℕ) {r : ReadAnswer} → 0 < f → turn s at sh ≡ over r → read_from f s at sh ≡ r
  turn_over f h e = ap (λ (n : ℕ). read_from n s at sh) (pred_suc f h) ∙ over_suc (f - 1) e

  -- what a turn gives, by the ways that the code takes
  pub turn_end : length s ≤ at → turn s at sh ≡ over (end_read sh (length s))
  unfolding turn pick
  turn_end h = rw (le-ltb at (length s) h)

  pub turn_short : at < length s → field_at s at ≡ Short → turn s at sh ≡ over (refused_read cut_short at)
  unfolding turn turn_field pick
  turn_short h e = rw (lt-ltb at (length s) h, e)

  module _ {tag start len : ℕ} {next : Cursor} (h : at < length s) (e : field_at s at ≡ Whole tag start len next) where
    pub turn_refused : {n : ℕ} → n ≡ field_refusal s tag start len (given_of sh) → 0 < n → turn s at sh ≡ over (refused_read n at)
    unfolding turn turn_field pick
    turn_refused {n} q p = rw (lt-ltb at (length s) h, e, ← q, ne_eqb n 0 (λ z. omega arith))

    pub turn_next : {n : ℕ} {sh' : Sheet} → n ≡ field_refusal s tag start len (given_of sh) → n ≤ 0 → sh' ≡ with_field s tag start sh → turn s at sh ≡ on next.at sh'
    unfolding turn turn_field pick
    turn_next {n} q p w = rw (lt-ltb at (length s) h, e, ← q, eq-eqb n 0 (omega arith), w)

-- what a field adds, by its tag
module _ (s : List ℕ) (tag p : ℕ) (sh : Sheet) where
  pub with_edition_lem : tag ≡ edition_tag → with_edition sh (get_or s p 0) ≡ with_field s tag p sh
  unfolding with_field pick
  with_edition_lem e = rw e

  pub with_layout : {l : Layout} {t : Tensors} → tag ≡ layout_tag → l ≡ layout_at s p → t ≡ more_layout sh.tensors l → with_tensors sh t ≡ with_field s tag p sh
  unfolding with_field pick
  with_layout e f g = rw (e, g, f)

  pub with_view : {v : View} {t : Tensors} → tag ≡ view_tag → v ≡ view_at s p → t ≡ more_view sh.tensors v → with_tensors sh t ≡ with_field s tag p sh
  unfolding with_field pick
  with_view e f g = rw (e, g, f)

  pub with_step_lem : {st : Step} → (tag ≡ edition_tag → ⊥) → (tag ≡ layout_tag → ⊥) → (tag ≡ view_tag → ⊥) → st ≡ step_at sh.edition s tag p → with_step sh st ≡ with_field s tag p sh
  unfolding with_field pick
  with_step_lem a b c e = rw (ne_eqb tag edition_tag a, ne_eqb tag layout_tag b, ne_eqb tag view_tag c, e)

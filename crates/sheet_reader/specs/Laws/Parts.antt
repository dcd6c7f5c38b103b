-- Where a sheet's parts stand, as its fields are taken one by one.
use Rattle.std.specs.Prelude.{ℕ, ◌+◌, ◌<◌, ◌≤◌, ◌≡◌, Bool, true, false, eqb, length, get_or, set, replicate}
use Rattle.std.proofs.Math.Path.{refl, ap}
use Rattle.std.proofs.Common.{sym, subst, ◌∙◌, ⊎_elim, arith, get_or-set_same, get_or-set_other}
use mathlib.Core.List.{List, []}
use Rattle.std.proofs.Math.Nat.{zero-add}
use borrow.Author.Tests.{eqb-true, ne_eqb}
use Rattle.std.proofs.Math.ListN.{length-set}
use Rattle.std.proofs.lemmas.List.{length-replicate, get_or-replicate}
use Rattle.numbers.specs.Choice.{pick}
use Rattle.numbers.specs.Laws.Choice.{both_left, both_right, by_place}
use Rattle.sheet.specs.Sizes.{layout_places, view_places, step_places}
use Rattle.sheet.specs.Codes.{edition_tag, layout_tag, view_tag}
use Rattle.sheet.specs.declared.Layout.{Layout}
use Rattle.sheet.specs.declared.View.{View}
use Rattle.sheet.specs.declared.Cell.{Cell}
use Rattle.sheet.specs.declared.Sheet.{Sheet}
use Rattle.tensor_ranges.specs.Layouts.{no_layout, the_layout}
use Rattle.tensor_ranges.specs.Views.{no_view, the_view}
use Rattle.sheet_ranges.specs.Steps.{no_cell}
use Rattle.sheet_ranges.specs.Sheets.{no_tensors, empty_sheet}
use Rattle.sheet_ranges.specs.Laws.Within.{TensorsWithin}
use Rattle.sheet.specs.Laws.Editions.{edition_some}
use Rattle.fields.specs.Fields.{field_at}
use Rattle.fields.specs.declared.Cursor.{Cursor}
use Rattle.fields.specs.declared.Field.TheVariants.{Whole}
use Rattle.contents.specs.Contents.{layout_at, view_at}
use Rattle.contents.specs.Laws.Heads.{layout_room, view_room}
use Rattle.step_contents.specs.Contents.{step_at}
use Rattle.sheet_reader.specs.Reading.{given_of, layout_may_come, view_may_come, with_edition, more_layout, more_view, with_tensors, with_step, with_field}
use Rattle.sheet_reader.specs.Parts.{first_view, first_step, part_places, more_given, more_parts, LayoutIn, ViewIn, StepIn, Parted, Stands}
use Rattle.sheet_reader.specs.Laws.Taken.{LayoutTaken, ViewTaken, StepTaken, Took, edition, layout, view, step, layout_place, view_place, step_place}
use Rattle.sheet_reader.specs.Laws.Turns.{with_edition_lem, with_layout, with_view, with_step_lem}
use Rattle.sheet_reader.specs.Laws.Growing.{Grown, SoFar, first_edition}
use Rattle.sheet_reader.specs.declared.Given.{Given}

module _ {A : Type 0} (N : ℕ) (d none : A) (In : ℕ → A → Type 0) where
  parted_none : (parts : List ℕ) (first : ℕ) → Parted N d none In parts first 0 (replicate N none)
  parted_none parts first =
      record { count = length-replicate N none; given = λ k h. absurd (omega arith); past = λ k h l. get_or-replicate N k none d l }

  module _ (parts : List ℕ) (first n : ℕ) (xs : List A) (w : Parted N d none In parts first n xs) (at : ℕ) where
    -- another part's place told
    parted_kept : (p : ℕ) → ((k : ℕ) → k < n → first + k ≡ p → ⊥) → Parted N d none In (set parts p at) first n xs
    parted_kept p other =
        record { count = w.count; given = λ k h. rw (get_or-set_other parts p (first + k) at 0 (other k h)) (w.given k h); past = w.past }

    -- one part more
    parted_more : (x : A) → n < N → first + n < length parts → In at x → Parted N d none In (set parts (first + n) at) first (n + 1) (set xs n x)
    parted_more x l room i =
        record {
          count = length-set xs n x ∙ w.count;
          given =
              λ k h.
              by_place k n (λ e. rw (e, get_or-set_same parts (first + n) at 0 room, get_or-set_same xs n x d (omega (arith, w.count))) i)
              (λ e.
              rw (get_or-set_other parts (first + n) (first + k) at 0 (λ z. e (omega arith)), get_or-set_other xs n k x d e)
              (w.given k (omega arith)));
          past = λ k h m. get_or-set_other xs n k x d (λ z. omega arith) ∙ w.past k (omega arith) m;
        }

-- where there is no part, it does not matter what a part says
parted_free : {A : Type 0} (N : ℕ) (d none : A) (In In' : ℕ → A → Type 0) (parts : List ℕ) (first n : ℕ) (xs : List A)
    → n ≡ 0 → Parted N d none In parts first n xs → Parted N d none In' parts first n xs
parted_free N d none In In' parts first n xs e w = record { count = w.count; given = λ k h. absurd (omega arith); past = w.past }

-- what a field adds to what is given, and to the places, by its tag
pick_given : (t : Bool) (x y : Sheet) → pick t (given_of x) (given_of y) ≡ given_of (pick t x y)
unfolding pick
pick_given true x y = refl
pick_given false x y = refl

module _ (s : List ℕ) (tag p : ℕ) (sh : Sheet) where
  pub more_given_lem : more_given s tag p (given_of sh) ≡ given_of (with_field s tag p sh)
  unfolding more_given with_field
  more_given_lem =
      let e = with_edition sh (get_or s p 0) in
      let l = with_tensors sh (more_layout sh.tensors (layout_at s p)) in
      let v = with_tensors sh (more_view sh.tensors (view_at s p)) in
      let t = with_step sh (step_at sh.edition s tag p) in
      ap (λ (x : Given). pick (eqb tag edition_tag) (given_of e) (pick (eqb tag layout_tag) (given_of l) x)) (pick_given (eqb tag view_tag) v t)
      ∙ ap (λ (x : Given). pick (eqb tag edition_tag) (given_of e) x) (pick_given (eqb tag layout_tag) l _)
      ∙ pick_given (eqb tag edition_tag) e _

module _ (tag at : ℕ) (g : Given) (parts : List ℕ) where
  edition_parts : tag ≡ edition_tag → parts ≡ more_parts tag at g parts
  unfolding more_parts pick
  edition_parts e = rw e

  layout_parts : tag ≡ layout_tag → set parts g.layouts at ≡ more_parts tag at g parts
  unfolding more_parts pick
  layout_parts e = rw e

  view_parts : tag ≡ view_tag → set parts (first_view + g.views) at ≡ more_parts tag at g parts
  unfolding more_parts pick
  view_parts e = rw e

  step_parts : (tag ≡ edition_tag → ⊥) → (tag ≡ layout_tag → ⊥) → (tag ≡ view_tag → ⊥) → set parts (first_step + g.steps) at ≡ more_parts tag at g parts
  unfolding more_parts pick
  step_parts a b c = rw (ne_eqb tag edition_tag a, ne_eqb tag layout_tag b, ne_eqb tag view_tag c)

pub empty_stands : (s parts : List ℕ) → length parts ≡ part_places → Stands s empty_sheet parts
unfolding empty_sheet no_tensors
empty_stands s parts h =
    record {
      places = h;
      layout = parted_none layout_places (the_layout [] 0) no_layout (LayoutIn s) parts 0;
      view = parted_none view_places (the_view [] 0) no_view (ViewIn s) parts first_view;
      step = parted_none step_places no_cell no_cell (StepIn s 0 0 0) parts first_step;
    }

edition_stands : (s parts : List ℕ) (e : ℕ) → Stands s empty_sheet parts → Stands s (with_edition empty_sheet e) parts
unfolding empty_sheet no_tensors
edition_stands s parts e w =
    record {
      places = w.places;
      layout = w.layout;
      view = w.view;
      step = parted_free step_places no_cell no_cell _ (StepIn s e 0 0) parts first_step 0 _ refl w.step;
    }

-- a field of a grown sheet
module _ (s : List ℕ) (sh : Sheet) (parts : List ℕ) (w : Stands s sh parts) (at tag len : ℕ) (next : Cursor) (is : field_at s at ≡ Whole tag (at + 3) len next) where
  layout_stands : TensorsWithin sh.tensors → tag ≡ layout_tag → LayoutTaken s (at + 3) len (given_of sh)
      → Stands s (with_tensors sh (more_layout sh.tensors (layout_at s (at + 3)))) (set parts sh.tensors.layouts at)
  unfolding layout_may_come
  layout_stands within e t =
      let none : sh.steps ≡ 0 = eqb-true _ _ (both_left _ _ (both_right _ _ (both_right _ _ t.may))) in
      let bare : sh.tensors.views ≡ 0 = eqb-true _ _ (both_left _ _ (both_right _ _ t.may)) in
      let few = layout_place (given_of sh) t.may in
      let ts = sh.tensors in
      record {
        places = length-set parts ts.layouts at ∙ w.places;
        layout =
            rw zero-add at
            (parted_more layout_places (the_layout [] 0) no_layout (LayoutIn s) parts 0 ts.layouts ts.layout w.layout at (layout_at s (at + 3)) few
            (omega (arith, w.places))
            (record { len = len; next = next; field = rw e at is; long = layout_room len t.long; head = t.head; says = refl }));
        view = parted_kept view_places (the_view [] 0) no_view (ViewIn s) parts first_view ts.views ts.view w.view at ts.layouts (λ k h z. omega arith);
        step =
            parted_kept step_places no_cell no_cell (StepIn s sh.edition (ts.layouts + 1) ts.views) parts first_step sh.steps sh.step
            (parted_free step_places no_cell no_cell (StepIn s sh.edition ts.layouts ts.views) (StepIn s sh.edition (ts.layouts + 1) ts.views) parts first_step sh.steps sh.step none w.step)
            at ts.layouts (λ k h z. omega arith);
      }

  view_stands : TensorsWithin sh.tensors → tag ≡ view_tag → ViewTaken s (at + 3) len (given_of sh)
      → Stands s (with_tensors sh (more_view sh.tensors (view_at s (at + 3)))) (set parts (first_view + sh.tensors.views) at)
  unfolding view_may_come
  view_stands within e t =
      let none : sh.steps ≡ 0 = eqb-true _ _ (both_left _ _ (both_right _ _ t.may)) in
      let few = view_place (given_of sh) t.may in
      let ts = sh.tensors in
      record {
        places = length-set parts (first_view + ts.views) at ∙ w.places;
        layout = parted_kept layout_places (the_layout [] 0) no_layout (LayoutIn s) parts 0 ts.layouts ts.layout w.layout at (first_view + ts.views) (λ k h z. omega (arith, within.layouts));
        view =
            parted_more view_places (the_view [] 0) no_view (ViewIn s) parts first_view ts.views ts.view w.view at (view_at s (at + 3)) few
            (omega (arith, w.places))
            (record { len = len; next = next; field = rw e at is; long = view_room len t.long; head = t.head; says = refl });
        step =
            parted_kept step_places no_cell no_cell (StepIn s sh.edition ts.layouts (ts.views + 1)) parts first_step sh.steps sh.step
            (parted_free step_places no_cell no_cell (StepIn s sh.edition ts.layouts ts.views) (StepIn s sh.edition ts.layouts (ts.views + 1)) parts first_step sh.steps sh.step none w.step)
            at (first_view + ts.views) (λ k h z. omega arith);
      }

  step_stands : TensorsWithin sh.tensors → StepTaken s (at + 3) len (given_of sh) tag → Stands s (with_step sh (step_at sh.edition s tag (at + 3))) (set parts (first_step + sh.steps) at)
  step_stands within t =
      let few = step_place (given_of sh) t.may in
      let ts = sh.tensors in
      record {
        places = length-set parts (first_step + sh.steps) at ∙ w.places;
        layout = parted_kept layout_places (the_layout [] 0) no_layout (LayoutIn s) parts 0 ts.layouts ts.layout w.layout at (first_step + sh.steps) (λ k h z. omega (arith, within.layouts));
        view = parted_kept view_places (the_view [] 0) no_view (ViewIn s) parts first_view ts.views ts.view w.view at (first_step + sh.steps) (λ k h z. omega (arith, within.views));
        step =
            parted_more step_places no_cell no_cell (StepIn s sh.edition ts.layouts ts.views) parts first_step sh.steps sh.step w.step at
            (record { step = step_at sh.edition s tag (at + 3) }) few (omega (arith, w.places))
            (record { tag = tag; len = len; next = next; field = is; long = t.long; ok = t.ok; says = refl });
      }

  field_stands : Grown sh → Took s (at + 3) len (given_of sh) tag → Stands s (with_field s tag (at + 3) sh) (more_parts tag at (given_of sh) parts)
  field_stands g (edition e t) = absurd (omega (arith, t.first, edition_some sh.edition g.within.edition))
  field_stands g (layout e t) = rw (with_layout s tag (at + 3) sh e refl refl, layout_parts tag at (given_of sh) parts e) at (layout_stands g.within.tensors e t)
  field_stands g (view e t) = rw (with_view s tag (at + 3) sh e refl refl, view_parts tag at (given_of sh) parts e) at (view_stands g.within.tensors e t)
  field_stands g (step e f t) =
      rw (with_step_lem s tag (at + 3) sh (λ z. omega arith) (λ z. omega arith) (λ z. omega arith) refl, step_parts tag at (given_of sh) parts (λ z. omega arith) (λ z. omega arith) (λ z. omega arith)) at
      (step_stands g.within.tensors t)

-- the parts of a sheet stand where they are told, one field further on
start_stands : (s parts : List ℕ) (tag at len : ℕ) → Stands s empty_sheet parts → Took s (at + 3) len (given_of empty_sheet) tag
    → Stands s (with_field s tag (at + 3) empty_sheet) (more_parts tag at (given_of empty_sheet) parts)
start_stands s parts tag at len w t =
    let f = first_edition s tag (at + 3) len t in
    rw (with_edition_lem s tag (at + 3) empty_sheet f.0, edition_parts tag at (given_of empty_sheet) parts f.0) at (edition_stands s parts (get_or s (at + 3) 0) w)

pub so_stands : (s : List ℕ) (sh : Sheet) (parts : List ℕ) (at tag len : ℕ) (next : Cursor) → field_at s at ≡ Whole tag (at + 3) len next → SoFar sh → Stands s sh parts
    → Took s (at + 3) len (given_of sh) tag → Stands s (with_field s tag (at + 3) sh) (more_parts tag at (given_of sh) parts)
so_stands s sh parts at tag len next is p w t =
    ⊎_elim
    (λ e.
    subst (λ (x : Sheet). Stands s x parts → Took s (at + 3) len (given_of x) tag → Stands s (with_field s tag (at + 3) x) (more_parts tag at (given_of x) parts)) (sym e)
    (start_stands s parts tag at len) w t)
    (λ g. field_stands s sh parts w at tag len next is g t) p

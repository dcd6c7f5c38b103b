-- What holds of a reading at each byte: nothing has been read, or the sheet so far is within Sizes.
use Rattle.std.specs.Prelude.{ℕ, ◌+◌, ◌<◌, ◌≤◌, ◌≡◌, refl, true, ◌⊎◌, length, get_or}
use Rattle.std.proofs.Common.{sym, ap, ◌∙◌, true≢false, inl, inr, arith}
use Rattle.std.proofs.Math.Path.{subst}
use Rattle.std.proofs.Math.Logic.{⊎_elim}
use mathlib.Core.List.{List, []}
use borrow.Author.Tests.{eqb-true, ltb-true, le-ltb}
use Rattle.std.proofs.Math.ListN.{length-set}
use Rattle.numbers.specs.Choice.{pick, both}
use Rattle.numbers.specs.Laws.Choice.{both_left, both_right}
use Rattle.numbers.specs.All.{all}
use Rattle.numbers.specs.Laws.Places.{held_none, held_more}
use Rattle.refusals.specs.Refusals.{out_of_order, unknown_edition}
use Rattle.sheet.specs.Sizes.{layout_places, view_places, step_places}
use Rattle.sheet.specs.Editions.{edition_ok, limits}
use Rattle.sheet.specs.Laws.Editions.{edition_some, limits_steps}
use Rattle.sheet.specs.Codes.{edition_tag}
use Rattle.tensor_ranges.specs.Layouts.{no_layout, the_layout, layout_ok, layout_unused, dimension_at_ok, dimension_unused}
use Rattle.tensor_ranges.specs.Views.{no_view, the_view, view_ok, view_unused, entry_ok, view_dimension_at_ok, view_dimension_unused, clip_unused}
use Rattle.sheet_ranges.specs.Steps.{no_cell, step_ok, step_unused}
use Rattle.sheet_ranges.specs.Sheets.{no_tensors, empty_sheet}
use Rattle.sheet_ranges.specs.Laws.Within.{StepsHeld, Within}
use Rattle.sheet.specs.declared.Layout.{Layout}
use Rattle.sheet.specs.declared.View.{View}
use Rattle.sheet.specs.declared.Step.{Step}
use Rattle.sheet.specs.declared.Cell.{Cell}
use Rattle.sheet.specs.declared.Sheet.{Sheet}
use Rattle.contents.specs.Contents.{layout_at, view_at}
use Rattle.step_contents.specs.Contents.{step_at}
use Rattle.sheet_reader.specs.Reading.{given_of, layout_may_come, view_may_come, step_may_come, with_edition, more_layout, more_view, with_tensors, with_step, with_field, refused_read, accepted_read, end_read, read_sheet}
use Rattle.sheet_reader.specs.Laws.Taken.{EditionTaken, Took, edition, layout, view, step, layout_place, view_place}
use Rattle.sheet_reader.specs.Laws.Turns.{with_edition_lem, with_layout, with_view, with_step_lem}
use Rattle.sheet_reader.specs.Laws.Ways.{length_at, reads}
use Rattle.sheet_reader.specs.declared.ReadAnswer.{ReadAnswer}

-- each array has its places
pub record HasPlaces (sh : Sheet) : Type 0 where
  pub layout : length sh.tensors.layout ≡ layout_places
  pub view : length sh.tensors.view ≡ view_places
  pub step : length sh.step ≡ step_places

pub record Grown (sh : Sheet) : Type 0 where
  pub within : Within sh
  pub places : HasPlaces sh

-- steps that are not given stay so under other counts
steps_none : (edition layouts views layouts' views' count : ℕ) (cs : List Cell) → count ≡ 0 → StepsHeld edition layouts views count cs → StepsHeld edition layouts' views' count cs
steps_none n layouts views layouts' views' count cs e w = record { given = λ k h. absurd (omega arith); past = w.past }

no_layout_unused : layout_unused no_layout ≡ true
unfolding layout_unused no_layout all dimension_at_ok dimension_unused both pick
no_layout_unused = refl

no_view_unused : view_unused no_view ≡ true
unfolding view_unused no_view all entry_ok view_dimension_at_ok view_dimension_unused clip_unused both pick
no_view_unused = refl

-- the sheet with an edition alone
pub edition_grown : (e : ℕ) → edition_ok e ≡ true → Grown (with_edition empty_sheet e)
unfolding empty_sheet no_tensors
edition_grown e ok =
    record {
      within =
          record {
            edition = ok;
            tensors =
                record {
                  layouts = omega arith;
                  views = omega arith;
                  layout = held_none layout_places layout_ok layout_unused (the_layout [] 0) no_layout no_layout_unused;
                  view = held_none view_places view_ok view_unused (the_view [] 0) no_view no_view_unused;
                };
            steps = omega arith;
            step = held_none step_places (λ (c : Cell). step_ok e 0 0 c.step) (λ (c : Cell). step_unused c.step) no_cell no_cell refl;
          };
      places = record { layout = refl; view = refl; step = refl };
    }

-- a grown sheet with one part more
module _ (sh : Sheet) (g : Grown sh) where
  pub layout_grown : (l : Layout) → layout_may_come (given_of sh) ≡ true → layout_ok l ≡ true → Grown (with_tensors sh (more_layout sh.tensors l))
  unfolding layout_may_come
  layout_grown l may ok =
      let t = sh.tensors in
      let w = g.within in
      let p = g.places in
      let none : sh.steps ≡ 0 = eqb-true _ _ (both_left _ _ (both_right _ _ (both_right _ _ may))) in
      let few = layout_place (given_of sh) may in
      record {
        within =
            record {
              edition = w.edition;
              tensors =
                  record {
                    layouts = omega arith;
                    views = w.tensors.views;
                    layout = held_more layout_places layout_ok layout_unused (the_layout [] 0) t.layouts t.layout l (omega (arith, p.layout)) ok w.tensors.layout;
                    view = w.tensors.view;
                  };
              steps = w.steps;
              step = steps_none sh.edition t.layouts t.views (t.layouts + 1) t.views sh.steps sh.step none w.step;
            };
        places = record { layout = length-set t.layout t.layouts l ∙ p.layout; view = p.view; step = p.step };
      }

  pub view_grown : (v : View) → view_may_come (given_of sh) ≡ true → view_ok v ≡ true → Grown (with_tensors sh (more_view sh.tensors v))
  unfolding view_may_come
  view_grown v may ok =
      let t = sh.tensors in
      let w = g.within in
      let p = g.places in
      let none : sh.steps ≡ 0 = eqb-true _ _ (both_left _ _ (both_right _ _ may)) in
      let few = view_place (given_of sh) may in
      record {
        within =
            record {
              edition = w.edition;
              tensors =
                  record {
                    layouts = w.tensors.layouts;
                    views = omega arith;
                    layout = w.tensors.layout;
                    view = held_more view_places view_ok view_unused (the_view [] 0) t.views t.view v (omega (arith, p.view)) ok w.tensors.view;
                  };
              steps = w.steps;
              step = steps_none sh.edition t.layouts t.views t.layouts (t.views + 1) sh.steps sh.step none w.step;
            };
        places = record { layout = p.layout; view = length-set t.view t.views v ∙ p.view; step = p.step };
      }

  pub step_grown : (st : Step) → step_may_come (given_of sh) ≡ true → step_ok sh.edition sh.tensors.layouts sh.tensors.views st ≡ true → Grown (with_step sh st)
  unfolding step_may_come
  step_grown st may ok =
      let t = sh.tensors in
      let w = g.within in
      let p = g.places in
      let few : sh.steps < (limits sh.edition).steps = ltb-true _ _ (both_right _ _ may) in
      let c : Cell = record { step = st } in
      record {
        within =
            record {
              edition = w.edition;
              tensors = w.tensors;
              steps = omega arith;
              step =
                  held_more step_places (λ (c : Cell). step_ok sh.edition t.layouts t.views c.step) (λ (c : Cell). step_unused c.step) no_cell
                  sh.steps sh.step c (omega (arith, p.step, limits_steps sh.edition)) ok w.step;
            };
        places = record { layout = p.layout; view = p.view; step = length-set sh.step sh.steps c ∙ p.step };
      }

  pub field_grown : (s : List ℕ) (tag at len : ℕ) → Took s at len (given_of sh) tag → Grown (with_field s tag at sh)
  field_grown s tag at len (edition e t) = absurd (omega (arith, t.first, edition_some sh.edition g.within.edition))
  field_grown s tag at len (layout e t) = rw (with_layout s tag at sh e refl refl) at (layout_grown (layout_at s at) t.may t.ok)
  field_grown s tag at len (view e t) = rw (with_view s tag at sh e refl refl) at (view_grown (view_at s at) t.may t.ok)
  field_grown s tag at len (step e f t) =
      rw (with_step_lem s tag at sh (λ z. omega arith) (λ z. omega arith) (λ z. omega arith) refl) at (step_grown (step_at sh.edition s tag at) t.may t.ok)

-- nothing has been read, or the sheet has grown so far
abbrev pub SoFar : Sheet → Type 0
SoFar sh = (sh ≡ empty_sheet) ⊎ Grown sh

-- no other part comes before the edition
pub first_edition : (s : List ℕ) (tag at len : ℕ) → Took s at len (given_of empty_sheet) tag → (tag ≡ edition_tag) × EditionTaken s at len (given_of empty_sheet)
unfolding empty_sheet layout_may_come view_may_come step_may_come both pick
first_edition s tag at len (edition e t) = (e, t)
first_edition s tag at len (layout e t) = absurd (true≢false (sym t.may))
first_edition s tag at len (view e t) = absurd (true≢false (sym t.may))
first_edition s tag at len (step e f t) = absurd (true≢false (sym t.may))

-- a sheet has grown by a field that is taken
start_grown : (s : List ℕ) (tag at len : ℕ) → Took s at len (given_of empty_sheet) tag → Grown (with_field s tag at empty_sheet)
start_grown s tag at len t =
    let f = first_edition s tag at len t in
    rw (with_edition_lem s tag at empty_sheet f.0) at (edition_grown (get_or s at 0) f.1.known)

pub so_grown : (s : List ℕ) (tag at len : ℕ) (sh : Sheet) → SoFar sh → Took s at len (given_of sh) tag → Grown (with_field s tag at sh)
so_grown s tag at len sh p t =
    ⊎_elim (λ e. subst (λ (x : Sheet). Took s at len (given_of x) tag → Grown (with_field s tag at x)) (sym e) (start_grown s tag at len) t)
    (λ g. field_grown sh g s tag at len t) p

module _ (s : List ℕ) (R : ReadAnswer → Type 0) (refused : (n at : ℕ) → 1 ≤ n → n ≤ unknown_edition → R (refused_read n at)) (accepted : (sh : Sheet) → Grown sh → R (accepted_read sh)) where
  ended : (sh : Sheet) → SoFar sh → R (end_read sh (length s))
  unfolding empty_sheet end_read pick
  ended sh p =
      ⊎_elim (λ e. subst (λ (x : Sheet). R (end_read x (length s))) (sym e) (refused out_of_order (length s) (omega arith) (omega arith)))
      (λ g. rw (le-ltb sh.edition 1 (edition_some sh.edition g.within.edition)) (accepted sh g)) p

  -- a reading is a refusal, or accepts a sheet that has grown
  pub reading : R (read_sheet s)
  reading =
      reads s (λ (at : ℕ) (sh : Sheet). SoFar sh) R (inl refl)
      (λ at sh p.
      record {
        refused = λ n h m. refused n at h m;
        ended = λ h. ended sh p;
        taken = λ h t. inr (so_grown s (get_or s at 0) (at + 3) (length_at s at) sh p t);
      })

-- A reading that is not refused accepts the sheet that it gives; a refusal gives a number from 1 to 6 and an empty sheet.
pub not_refused_lem : (s : List ℕ) → (read_sheet s).refusal.number ≡ 0 → read_sheet s ≡ accepted_read (read_sheet s).sheet
unfolding refused_read accepted_read
not_refused_lem s e =
    reading s (λ (r : ReadAnswer). r.refusal.number ≡ 0 → r ≡ accepted_read r.sheet)
    (λ n at h m q. absurd (omega arith)) (λ sh g q. refl) e

pub refused : (s : List ℕ) → 1 ≤ (read_sheet s).refusal.number → read_sheet s ≡ refused_read (read_sheet s).refusal.number (read_sheet s).refusal.place
unfolding refused_read accepted_read
refused s e =
    reading s (λ (r : ReadAnswer). 1 ≤ r.refusal.number → r ≡ refused_read r.refusal.number r.refusal.place)
    (λ n at h m q. refl) (λ sh g q. absurd (omega arith)) e

pub number_small : (s : List ℕ) → (read_sheet s).refusal.number ≤ unknown_edition
unfolding refused_read accepted_read
number_small s = reading s (λ (r : ReadAnswer). r.refusal.number ≤ unknown_edition) (λ n at h m. m) (λ sh g. omega arith)

-- Everything read is within Sizes: the edition, the counts, each layout, view and step that is given, and each place that is not.
pub read_grown : (s : List ℕ) (sh : Sheet) → read_sheet s ≡ accepted_read sh → Grown sh
unfolding refused_read accepted_read
read_grown s sh e =
    reading s (λ (r : ReadAnswer). r ≡ accepted_read sh → Grown sh)
    (λ n at h m q. let z : n ≡ 0 = ap (λ (r : ReadAnswer). r.refusal.number) q in absurd (omega arith))
    (λ sh' g q. let z : sh' ≡ sh = ap (λ (r : ReadAnswer). r.sheet) q in rw z at g) e

pub read_within : (s : List ℕ) → (read_sheet s).refusal.number ≡ 0 → Within (read_sheet s).sheet
read_within s e = (read_grown s _ (not_refused_lem s e)).within

-- The bytes of a writable model, read field by field: each turn adds the next part, and the last leaves the model.
use Prim.Native.Nat.{ℕ, zero, suc, ◌+◌, ◌-◌, ◌<◌, ◌≤◌}
use Rattle.std.specs.Prelude.{◌≡◌, replicate}
use Rattle.std.proofs.Math.Path.{refl, ap}
use Rattle.std.proofs.Common.{sym, ◌∙◌, zero-add, add-one}
use Rattle.std.proofs.Math.Bool.{true}
use mathlib.Core.List.{List, [], ◌∷◌, ◌++◌}
use Rattle.std.proofs.Math.Nat.{add-zero}
use native.Mathlib.Omega.{arith}
use borrow.Author.Tests.{lt-ltb, le-ltb, le-leb, eq-eqb}
use Rattle.std.proofs.Math.ListN.{length, get_or, length-append}
use Rattle.numbers.specs.Choice.{pick, both}
use Rattle.numbers.specs.Little.{u16_at}
use Rattle.numbers.specs.Lists.{line, each}
use Rattle.numbers.specs.Laws.Lists.{line_next}
use Rattle.numbers.specs.Laws.Joins.{each_long}
use Rattle.numbers.specs.Laws.Places.{places_are}
use Rattle.sheet.specs.Sizes.{layout_places, view_places, step_places}
use Rattle.sheet.specs.Editions.{limits}
use Rattle.sheet.specs.Codes.{edition_tag, layout_tag, view_tag}
use Rattle.tensor_ranges.specs.Layouts.{no_layout, the_layout, layout_ok}
use Rattle.tensor_ranges.specs.Views.{no_view, the_view, view_ok}
use Rattle.sheet_ranges.specs.Steps.{no_cell, the_step, step_ok}
use Rattle.sheet_ranges.specs.Sheets.{no_tensors, empty_sheet}
use Rattle.sheet.specs.Laws.Editions.{edition_some}
use Rattle.sheet_ranges.specs.Laws.Within.{Within, within_places}
use Rattle.sheet.specs.declared.Layout.{Layout}
use Rattle.sheet.specs.declared.View.{View}
use Rattle.sheet.specs.declared.Step.{Step}
use Rattle.sheet.specs.declared.Sheet.{Sheet}
use Rattle.fields.specs.Fields.{field_at}
use Rattle.contents.specs.Contents.{layout_length_ok, view_length_ok}
use Rattle.step_contents.specs.Contents.{step_length}
use Rattle.sheet_reader.specs.Reading.{given_of, layout_may_come, view_may_come, step_may_come, edition_refusal, layout_refusal, view_refusal, step_refusal, field_refusal, with_edition, more_layout, more_view, with_tensors, with_step, with_field, accepted_read, end_read, on, turn_field, turn, after_turn, read_from, read_sheet}
use Rattle.sheet_reader.specs.Laws.Turns.{with_edition_lem, with_layout, with_view, with_step_lem}
use Rattle.fields.specs.Bytes.{field_bytes}
use Rattle.sheet_bytes.specs.Bytes.{edition_field, layout_bytes, layout_field, view_bytes, view_field}
use Rattle.fields.specs.Laws.Lengths.{length_field}
use Rattle.sheet_bytes.specs.Laws.Lengths.{length_layout, length_view}
use Rattle.step_bytes.specs.Bytes.{step_tag, step_bytes, step_field}
use Rattle.sheet_writer.specs.Bytes.{layouts_bytes, views_bytes, steps_bytes, sheet_bytes}
use Rattle.round_trip.specs.Typed.{LayoutArrays, ViewArrays, SheetArrays}
use Rattle.fields.specs.Laws.Stretches.{Has, has_at, has_shift, has_left, has_right, has_self, u16_of}
use Rattle.round_trip.proofs.Laws.Layouts.{layout_shaped, layout_of, layout_length_ok_lem, layout_head_ok_lem, no_layout_lem}
use Rattle.round_trip.proofs.Laws.Views.{view_shaped, view_of_lem, view_length_ok_lem, view_head_ok_lem, no_view_lem}
use Rattle.round_trip.proofs.Laws.Steps.{step_of, step_long, tag_range, tag_known_lem, tag_judged, no_step}

-- a field with this content from p on is not refused, and takes one sheet to the other
record Takes (s : List ℕ) (tag p len : ℕ) (sh sh' : Sheet) : Type 0 where
  judged : field_refusal s tag p len (given_of sh) ≡ 0
  part : with_field s tag p sh ≡ sh'

-- a field's bytes make a turn
field_turn : (s : List ℕ) (at tag : ℕ) (content : List ℕ) (sh sh' : Sheet) → Has s at 0 (field_bytes tag content) → at + 3 + length content ≤ length s → Takes s tag (at + 3) (length content) sh sh' → turn s at sh ≡ on (at + 3 + length content) sh'
unfolding field_bytes turn field_at turn_field pick
field_turn s at tag content sh sh' h l e =
    let t : get_or s at 0 ≡ tag = rw add-zero at h.0 in
    let n : u16_at s (at + 1) ≡ length content = u16_of s at 1 (length content) h.1.0 h.1.1.0 in
    rw (lt-ltb at (length s) (omega arith), le-ltb (length s - at) 3 (omega arith), n, le-leb (length content) (length s - (at + 3)) (omega arith), t, e.judged, e.part)

turn_on : (s : List ℕ) (n at at' : ℕ) (sh sh' : Sheet) → turn s at sh ≡ on at' sh' → read_from (suc n) s at sh ≡ read_from n s at' sh'
unfolding read_from after_turn
turn_on s n at at' sh sh' e = rw e

-- fields one after the other, each of which takes one sheet to the next
module _ (s : List ℕ) (at : ℕ) (tag : ℕ → ℕ) (content : ℕ → List ℕ) (part : ℕ → Sheet) where
  abbrev field : ℕ → List ℕ
  field k = field_bytes (tag k) (content k)

  run : (n f : ℕ) → Has s at 0 (each n field) → at + length (each n field) ≤ length s → ((k : ℕ) → k < n → (p : ℕ) → Has s p 0 (content k) → Takes s (tag k) p (length (content k)) (part k) (part (suc k))) → read_from (n + f) s at (part 0) ≡ read_from f s (at + length (each n field)) (part n)
  unfolding each field_bytes
  run zero f h l take = rw (zero-add f, add-zero at)
  run (suc n) f h l take =
      let c = content n in
      let a = each n field in
      let q = length-append a (field_bytes (tag n) c) in
      let m = length_field (tag n) c in
      let i : suc n + f ≡ n + suc f = omega arith in
      let j : at + length a + 3 + length c ≡ at + length (a ++ field_bytes (tag n) c) = omega arith in
      let b = has_right s at a (field_bytes (tag n) c) h in
      let t = has_shift s (at + length a) 3 0 c b.1.1.1 in
      ap (λ (m : ℕ). read_from m s at (part 0)) i
      ∙ run n (suc f) (has_left s at 0 a (field_bytes (tag n) c) h) (omega arith) (λ k h. take k (omega arith))
      ∙ turn_on s f (at + length a) (at + length a + 3 + length c) (part n) (part (suc n))
      (field_turn s (at + length a) (tag n) c (part n) (part (suc n)) b (omega arith) (take n (omega arith) (at + length a + 3) t))
      ∙ ap (λ (p : ℕ). read_from f s p (part (suc n))) j

-- each part is taken where it may come
module _ (s : List ℕ) (p : ℕ) (sh : Sheet) where
  layout_judged : (l : Layout) → layout_ok l ≡ true → LayoutArrays l → layout_may_come (given_of sh) ≡ true → Has s p 0 (layout_bytes l) → field_refusal s layout_tag p (length (layout_bytes l)) (given_of sh) ≡ 0
  unfolding field_refusal layout_refusal pick
  layout_judged l ok z may h =
      let w = layout_shaped l ok z in
      let n : layout_length_ok (length (layout_bytes l)) ≡ true = rw (length_layout l) (layout_length_ok_lem l.rank w.some w.few) in
      rw (may, n, layout_head_ok_lem s p l w h, layout_of s p l w h, ok)

  layout_taken : (l : Layout) → layout_ok l ≡ true → LayoutArrays l → layout_may_come (given_of sh) ≡ true → Has s p 0 (layout_bytes l) → Takes s layout_tag p (length (layout_bytes l)) sh (with_tensors sh (more_layout sh.tensors l))
  layout_taken l ok z may h =
      record {
        judged = layout_judged l ok z may h;
        part = sym (with_layout s layout_tag p sh refl (sym (layout_of s p l (layout_shaped l ok z) h)) refl);
      }

  view_judged : (v : View) → view_ok v ≡ true → ViewArrays v → view_may_come (given_of sh) ≡ true → Has s p 0 (view_bytes v) → field_refusal s view_tag p (length (view_bytes v)) (given_of sh) ≡ 0
  unfolding field_refusal view_refusal pick
  view_judged v ok z may h =
      let w = view_shaped v ok z in
      let n : view_length_ok (length (view_bytes v)) ≡ true = rw (length_view v) (view_length_ok_lem v.sized v.rank w.some w.few) in
      rw (may, n, view_head_ok_lem s p v w h, view_of_lem s p v w h, ok)

  view_taken : (v : View) → view_ok v ≡ true → ViewArrays v → view_may_come (given_of sh) ≡ true → Has s p 0 (view_bytes v) → Takes s view_tag p (length (view_bytes v)) sh (with_tensors sh (more_view sh.tensors v))
  view_taken v ok z may h =
      record {
        judged = view_judged v ok z may h;
        part = sym (with_view s view_tag p sh refl (sym (view_of_lem s p v (view_shaped v ok z) h)) refl);
      }

  step_judged : sh.tensors.views ≤ view_places → (st : Step) → step_ok sh.edition sh.tensors.layouts sh.tensors.views st ≡ true → step_may_come (given_of sh) ≡ true → Has s p 0 (step_bytes sh.edition st) → step_refusal s (step_tag st) p (length (step_bytes sh.edition st)) (given_of sh) ≡ 0
  unfolding step_refusal pick
  step_judged few st ok may h =
      let k = tag_known_lem sh.edition sh.tensors.layouts sh.tensors.views st ok in
      let n = step_long sh.edition sh.tensors.layouts sh.tensors.views st ok in
      rw (k, may, n, eq-eqb (step_length sh.edition (step_tag st)) _ refl, step_of s p sh.edition sh.tensors.layouts sh.tensors.views few st ok h, ok)

  step_taken : sh.tensors.views ≤ view_places → (st : Step) → step_ok sh.edition sh.tensors.layouts sh.tensors.views st ≡ true → step_may_come (given_of sh) ≡ true → Has s p 0 (step_bytes sh.edition st) → Takes s (step_tag st) p (length (step_bytes sh.edition st)) sh (with_step sh st)
  step_taken few st ok may h =
      let t = tag_range sh.edition sh.tensors.layouts sh.tensors.views st ok in
      let low = t.0 in
      record {
        judged = tag_judged s (step_tag st) p (length (step_bytes sh.edition st)) (given_of sh) low t.1 ∙ step_judged few st ok may h;
        part =
            sym
            (with_step_lem s (step_tag st) p sh (λ z. omega arith) (λ z. omega arith) (λ z. omega arith)
            (sym (step_of s p sh.edition sh.tensors.layouts sh.tensors.views few st ok h)));
      }

-- the first i layouts, j views and k steps of a sheet, and nothing else
unfoldable up_to : Sheet → ℕ → ℕ → ℕ → Sheet
up_to sh i j k =
    record {
      edition = sh.edition;
      tensors =
          record {
            layouts = i;
            layout = line (replicate layout_places no_layout) 0 (the_layout sh.tensors.layout) i;
            views = j;
            view = line (replicate view_places no_view) 0 (the_view sh.tensors.view) j;
          };
      steps = k;
      step = line (replicate step_places no_cell) 0 (λ (n : ℕ). get_or sh.step n no_cell) k;
    }

module _ (sh : Sheet) where
  up_none : with_edition empty_sheet sh.edition ≡ up_to sh 0 0 0
  unfolding up_to empty_sheet no_tensors line
  up_none = refl

  up_layout : (i j k : ℕ) → with_tensors (up_to sh i j k) (more_layout (up_to sh i j k).tensors (the_layout sh.tensors.layout i)) ≡ up_to sh (suc i) j k
  unfolding up_to
  up_layout i j k = rw (line_next (replicate layout_places no_layout) (the_layout sh.tensors.layout) i, add-one)

  up_view : (i j k : ℕ) → with_tensors (up_to sh i j k) (more_view (up_to sh i j k).tensors (the_view sh.tensors.view j)) ≡ up_to sh i (suc j) k
  unfolding up_to
  up_view i j k = rw (line_next (replicate view_places no_view) (the_view sh.tensors.view) j, add-one)

  up_step : (i j k : ℕ) → with_step (up_to sh i j k) (the_step sh.step k) ≡ up_to sh i j (suc k)
  unfolding up_to
  up_step i j k = rw (line_next (replicate step_places no_cell) (λ (n : ℕ). get_or sh.step n no_cell) k, add-one)

  up_all : Within sh → SheetArrays sh → up_to sh sh.tensors.layouts sh.tensors.views sh.steps ≡ sh
  unfolding up_to
  up_all w z =
      let t = sh.tensors in
      let ls =
      places_are layout_places no_layout (the_layout [] 0) (the_layout t.layout) t.layouts w.tensors.layouts t.layout z.layout (λ k h. refl)
      (λ k h l. no_layout_lem (the_layout t.layout k) (z.layouts k l) (w.tensors.layout.past k h l)) in
      let vs =
      places_are view_places no_view (the_view [] 0) (the_view t.view) t.views w.tensors.views t.view z.view (λ k h. refl)
      (λ k h l. no_view_lem (the_view t.view k) (z.views k l) (w.tensors.view.past k h l)) in
      let ss =
      places_are step_places no_cell no_cell (λ (n : ℕ). get_or sh.step n no_cell) sh.steps (within_places w) sh.step z.step (λ k h. refl)
      (λ k h l. let e = no_step (the_step sh.step k) (w.step.past k h l) in λ i. record { step = e i }) in
      λ i.
      record {
        edition = sh.edition;
        tensors = record { layouts = t.layouts; layout = ls i; views = t.views; view = vs i };
        steps = sh.steps;
        step = ss i;
      }

-- where nothing later has come and there is room, the next part may come
module _ (sh : Sheet) (w : Within sh) where
  may_layout : (k : ℕ) → k < sh.tensors.layouts → layout_may_come (given_of (up_to sh k 0 0)) ≡ true
  unfolding layout_may_come up_to both pick
  may_layout k h = rw (lt-ltb 0 sh.edition (edition_some sh.edition w.edition), lt-ltb k layout_places (omega (arith, w.tensors.layouts)))

  may_view : (i k : ℕ) → k < sh.tensors.views → view_may_come (given_of (up_to sh i k 0)) ≡ true
  unfolding view_may_come up_to both pick
  may_view i k h = rw (lt-ltb 0 sh.edition (edition_some sh.edition w.edition), lt-ltb k view_places (omega (arith, w.tensors.views)))

  may_step : (i j k : ℕ) → k < sh.steps → step_may_come (given_of (up_to sh i j k)) ≡ true
  unfolding step_may_come up_to both pick
  may_step i j k h =
      rw (lt-ltb 0 sh.edition (edition_some sh.edition w.edition), lt-ltb k (limits sh.edition).steps (omega (arith, w.steps)))

module _ (sh : Sheet) (w : Within sh) (z : SheetArrays sh) where
  s : List ℕ
  s = sheet_bytes sh

  -- the bytes of the layouts, views and steps, and where they stand
  ls : List ℕ
  ls = layouts_bytes sh.tensors.layouts sh.tensors.layout

  vs : List ℕ
  vs = views_bytes sh.tensors.views sh.tensors.view

  ss : List ℕ
  ss = steps_bytes sh.edition sh.steps sh.step

  record Standing : Type 0 where
    edition : Has s 0 0 (edition_field sh.edition)
    layouts : Has s 4 0 ls
    views : Has s (4 + length ls) 0 vs
    steps : Has s (4 + length ls + length vs) 0 ss
    long : length s ≡ 4 + length ls + length vs + length ss

  standing : Standing
  unfolding s ls vs ss sheet_bytes
  standing =
      let e = edition_field sh.edition in
      let n : length e ≡ 4 = length_field edition_tag (sh.edition ∷ []) in
      let t3 = has_self s in
      let t2 = has_left s 0 0 (e ++ ls ++ vs) ss t3 in
      let t1 = has_left s 0 0 (e ++ ls) vs t2 in
      let a1 = length-append e ls in
      let a2 = length-append (e ++ ls) vs in
      let a3 = length-append (e ++ ls ++ vs) ss in
      record {
        edition = has_left s 0 0 e ls t1;
        layouts = has_at s (0 + length e) 4 ls (omega arith) (has_right s 0 e ls t1);
        views = has_at s (0 + length (e ++ ls)) (4 + length ls) vs (omega arith) (has_right s 0 (e ++ ls) vs t2);
        steps = has_at s (0 + length (e ++ ls ++ vs)) (4 + length ls + length vs) ss (omega arith) (has_right s 0 (e ++ ls ++ vs) ss t3);
        long = omega arith;
      }

  edition_at : get_or s 3 0 ≡ sh.edition
  unfolding field_bytes
  edition_at = standing.edition.1.1.1.0

  edition_judged : field_refusal s edition_tag 3 1 (given_of empty_sheet) ≡ 0
  unfolding field_refusal edition_refusal empty_sheet pick
  edition_judged = rw (edition_at, w.edition)

  edition_turn : turn s 0 empty_sheet ≡ on 4 (up_to sh 0 0 0)
  edition_turn =
      field_turn s 0 edition_tag (sh.edition ∷ []) empty_sheet (up_to sh 0 0 0) standing.edition (omega (arith, standing.long))
      (record {
        judged = edition_judged;
        part = sym (with_edition_lem s edition_tag 3 empty_sheet refl) ∙ ap (with_edition empty_sheet) edition_at ∙ up_none sh;
      })

  layouts_run : (f : ℕ) → read_from (sh.tensors.layouts + f) s 4 (up_to sh 0 0 0) ≡ read_from f s (4 + length ls) (up_to sh sh.tensors.layouts 0 0)
  unfolding ls
  layouts_run f =
      run s 4 (λ (k : ℕ). layout_tag) (λ (k : ℕ). layout_bytes (the_layout sh.tensors.layout k)) (λ (k : ℕ). up_to sh k 0 0) sh.tensors.layouts f
      standing.layouts (omega (arith, standing.long))
      (λ k h p g.
      rw (up_layout sh k 0 0) at
      (layout_taken s p (up_to sh k 0 0) (the_layout sh.tensors.layout k) (w.tensors.layout.given k h) (z.layouts k (omega (arith, w.tensors.layouts))) (may_layout sh w k h) g))

  views_run : (f : ℕ) → read_from (sh.tensors.views + f) s (4 + length ls) (up_to sh sh.tensors.layouts 0 0) ≡ read_from f s (4 + length ls + length vs) (up_to sh sh.tensors.layouts sh.tensors.views 0)
  unfolding vs
  views_run f =
      run s (4 + length ls) (λ (k : ℕ). view_tag) (λ (k : ℕ). view_bytes (the_view sh.tensors.view k)) (λ (k : ℕ). up_to sh sh.tensors.layouts k 0) sh.tensors.views f
      standing.views (omega (arith, standing.long))
      (λ k h p g.
      rw (up_view sh sh.tensors.layouts k 0) at
      (view_taken s p (up_to sh sh.tensors.layouts k 0) (the_view sh.tensors.view k) (w.tensors.view.given k h) (z.views k (omega (arith, w.tensors.views))) (may_view sh w sh.tensors.layouts k h) g))

  steps_run : (f : ℕ) → read_from (sh.steps + f) s (4 + length ls + length vs) (up_to sh sh.tensors.layouts sh.tensors.views 0) ≡ read_from f s (4 + length ls + length vs + length ss) (up_to sh sh.tensors.layouts sh.tensors.views sh.steps)
  unfolding ss up_to
  steps_run f =
      let i = sh.tensors.layouts in
      let j = sh.tensors.views in
      run s (4 + length ls + length vs) (λ (k : ℕ). step_tag (the_step sh.step k)) (λ (k : ℕ). step_bytes sh.edition (the_step sh.step k))
      (λ (k : ℕ). up_to sh i j k) sh.steps f standing.steps (omega (arith, standing.long))
      (λ k h p g.
      rw (up_step sh i j k) at
      (step_taken s p (up_to sh i j k) w.tensors.views (the_step sh.step k) (w.step.given k h) (may_step sh w i j k h) g))

  end_run : (f : ℕ) → read_from (suc f) s (length s) sh ≡ accepted_read sh
  unfolding read_from after_turn turn end_read pick
  end_run f = rw (le-ltb (length s) (length s) (omega arith), le-ltb sh.edition 1 (edition_some sh.edition w.edition))

  -- each field has a byte at least
  fuel : sh.tensors.layouts + (sh.tensors.views + sh.steps) < length s
  unfolding ls vs ss
  fuel =
      omega (
        arith,
        standing.long,
        each_long sh.tensors.layouts (λ (k : ℕ). layout_field (the_layout sh.tensors.layout k)) (λ k. omega (arith, length_field layout_tag (layout_bytes (the_layout sh.tensors.layout k)))),
        each_long sh.tensors.views (λ (k : ℕ). view_field (the_view sh.tensors.view k)) (λ k. omega (arith, length_field view_tag (view_bytes (the_view sh.tensors.view k)))),
        each_long sh.steps (λ (k : ℕ). step_field sh.edition (the_step sh.step k)) (λ k. omega (arith, length_field (step_tag (the_step sh.step k)) (step_bytes sh.edition (the_step sh.step k)))),
      )

  all_runs : (f : ℕ) → read_from (suc (sh.tensors.layouts + (sh.tensors.views + (sh.steps + suc f)))) s 0 empty_sheet ≡ accepted_read sh
  all_runs f =
      let i = sh.tensors.layouts in
      let j = sh.tensors.views in
      turn_on s (i + (j + (sh.steps + suc f))) 0 4 empty_sheet (up_to sh 0 0 0) edition_turn
      ∙ layouts_run (j + (sh.steps + suc f))
      ∙ views_run (sh.steps + suc f)
      ∙ steps_run (suc f)
      ∙ ap (λ (p : ℕ). read_from (suc f) s p (up_to sh i j sh.steps)) (sym standing.long)
      ∙ ap (λ (x : Sheet). read_from (suc f) s (length s) x) (up_all sh w z)
      ∙ end_run f

  pub reads_back : read_sheet (sheet_bytes sh) ≡ accepted_read sh
  unfolding read_sheet s
  reads_back =
      let given = sh.tensors.layouts + (sh.tensors.views + sh.steps) in
      let r = length s - given - 1 in
      let e : length s ≡ sh.tensors.layouts + (sh.tensors.views + (sh.steps + suc r)) = omega (arith, fuel) in
      ap (λ (n : ℕ). read_from (suc n) s 0 empty_sheet) e ∙ all_runs r

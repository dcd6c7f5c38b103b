-- What holds of a reading at each byte: nothing has been read, or the sheet so far is within Sizes and its bytes are those before.
use Rattle.std.specs.Prelude.{ℕ, ◌+◌, ◌<◌, ◌≤◌, ◌≡◌, refl, true, ◌⊎◌, List, [], ◌∷◌, ◌++◌, get_or}
use Rattle.std.proofs.Common.{sym, ◌∙◌, inl, ⊎_elim, add-zero, arith, eqb-true, le-ltb, length-append}
use Rattle.std.proofs.Math.Logic.{inr}
use Rattle.std.proofs.Math.ListN.{length}
use Rattle.std.proofs.lemmas.List.{get_or-replicate}
use Rattle.numbers.specs.Choice.{pick}
use Rattle.numbers.specs.Laws.Choice.{both_left, both_right}
use Rattle.numbers.specs.Lists.{each}
use Rattle.numbers.specs.Laws.Places.{none_all, set_keeps}
use Rattle.numbers.specs.Bytes.{AreBytes}
use Rattle.refusals.specs.Refusals.{out_of_order, unknown_edition}
use Rattle.sheet.specs.Sizes.{rank_places, layout_places, view_places, step_places}
use Rattle.sheet.specs.Codes.{edition_tag, layout_tag, view_tag, fill_tag, last_step_tag}
use Rattle.tensor_ranges.specs.Layouts.{no_dimension, no_layout, the_layout}
use Rattle.tensor_ranges.specs.Views.{no_view_dimension, no_clip, no_view, the_view}
use Rattle.sheet_ranges.specs.Steps.{no_cell}
use Rattle.sheet_ranges.specs.Sheets.{no_tensors, empty_sheet}
use Rattle.sheet.specs.Laws.Editions.{edition_some}
use Rattle.sheet.specs.declared.ViewDimension.{ViewDimension}
use Rattle.sheet.specs.declared.Cell.{Cell}
use Rattle.sheet.specs.declared.Sheet.{Sheet}
use Rattle.contents.specs.Contents.{layout_at, view_at}
use Rattle.step_contents.specs.Contents.{step_at}
use Rattle.sheet_reader.specs.Reading.{given_of, layout_may_come, view_may_come, with_edition, more_layout, more_view, with_tensors, with_step, with_field, refused_read, accepted_read, end_read, read_sheet}
use Rattle.sheet_reader.specs.Laws.Taken.{LayoutTaken, ViewTaken, StepTaken, Took, edition, layout, view, step, layout_place, view_place, step_place}
use Rattle.sheet_reader.specs.Laws.Turns.{with_edition_lem, with_layout, with_view, with_step_lem}
use Rattle.sheet_reader.specs.Laws.Ways.{tag_at, length_at, next_at, Ways, reads}
use Rattle.sheet_reader.specs.Laws.Growing.{Grown, edition_grown, layout_grown, view_grown, step_grown, first_edition}
use Rattle.sheet_reader.specs.declared.Given.{Given}
use Rattle.sheet_reader.specs.declared.ReadAnswer.{ReadAnswer}
use Rattle.fields.specs.Bytes.{field_bytes}
use Rattle.sheet_bytes.specs.Bytes.{layout_bytes, view_bytes}
use Rattle.fields.specs.Laws.Lengths.{length_field}
use Rattle.step_bytes.specs.Bytes.{step_tag, step_bytes}
use Rattle.sheet_writer.specs.Bytes.{sheet_bytes}
use Rattle.round_trip.specs.Typed.{U16, DimensionFits, ClipFits, LayoutArrays, LayoutFits, ViewArrays, ViewFits, StepFits, SheetFits}
use Rattle.round_trip.specs.Longest.{longest}
use Rattle.fields.specs.Laws.Stretches.{Has, has_at, has_back, has_join, low_at, high_at}
use Rattle.round_trip.proofs.Laws.Layouts.{layout_at_shaped, layout_at_long, has_layout, layout_at_fits}
use Rattle.round_trip.proofs.Laws.Views.{view_at_shaped, view_at_long, has_view, view_at_fits}
use Rattle.round_trip.proofs.Laws.Steps.{step_read}
use Rattle.round_trip.proofs.Laws.Sheets.{bytes_layout, bytes_view, bytes_step, sheet_short}

-- grown from the bytes before `at`
pub record GrownFrom (s : List ℕ) (at : ℕ) (sh : Sheet) : Type 0 where
  pub grown : Grown sh
  pub layouts : (k : ℕ) → k < layout_places → LayoutArrays (the_layout sh.tensors.layout k)
  pub views : (k : ℕ) → k < view_places → ViewArrays (the_view sh.tensors.view k)
  pub ends : at ≡ length (sheet_bytes sh)
  pub inside : at ≤ length s
  pub fits : AreBytes s → SheetFits sh
  pub stands : AreBytes s → Has s 0 0 (sheet_bytes sh)

-- a field that was read has its bytes
field_stands : (s : List ℕ) (at tag : ℕ) (content : List ℕ) → AreBytes s → tag_at s at ≡ tag → length content ≡ length_at s at → Has s (at + 3) 0 content → Has s at 0 (field_bytes tag content)
unfolding field_bytes
field_stands s at tag content b t e h =
    (rw add-zero t, (rw e (low_at s b at 1), (rw e (high_at s b at 1), has_back s at 3 0 content h)))

-- the sheet's bytes with one field more
module _ (s : List ℕ) (at : ℕ) (sh sh' : Sheet) (tag : ℕ) (content : List ℕ) (g : GrownFrom s at sh) (more : sheet_bytes sh' ≡ sheet_bytes sh ++ field_bytes tag content) (e : length content ≡ length_at s at) where
  ends_more : next_at s at ≡ length (sheet_bytes sh')
  ends_more = rw (more, length-append (sheet_bytes sh) (field_bytes tag content), length_field tag content, e) (omega (arith, g.ends))

  stands_more : tag_at s at ≡ tag → (AreBytes s → Has s (at + 3) 0 content) → AreBytes s → Has s 0 0 (sheet_bytes sh')
  stands_more t h b =
      let q : at ≡ 0 + length (sheet_bytes sh) = omega (arith, g.ends) in
      rw more
      (has_join s 0 (sheet_bytes sh) (field_bytes tag content) (g.stands b)
      (has_at s at (0 + length (sheet_bytes sh)) (field_bytes tag content) q (field_stands s at tag content b t e (h b))))

-- a part that may come has nothing after it
no_views : (g : Given) → layout_may_come g ≡ true → g.views ≡ 0
unfolding layout_may_come
no_views g may = eqb-true _ _ (both_left _ _ (both_right _ _ may))

no_steps : (g : Given) → layout_may_come g ≡ true → g.steps ≡ 0
unfolding layout_may_come
no_steps g may = eqb-true _ _ (both_left _ _ (both_right _ _ (both_right _ _ may)))

view_no_steps : (g : Given) → view_may_come g ≡ true → g.steps ≡ 0
unfolding view_may_come
view_no_steps g may = eqb-true _ _ (both_left _ _ (both_right _ _ may))

module _ (s : List ℕ) (at : ℕ) (sh : Sheet) (g : GrownFrom s at sh) (inside : next_at s at ≤ length s) where
  abbrev len : ℕ
  len = length_at s at

  layout_from : tag_at s at ≡ layout_tag → LayoutTaken s (at + 3) (length_at s at) (given_of sh) → GrownFrom s (next_at s at) (with_tensors sh (more_layout sh.tensors (layout_at s (at + 3))))
  layout_from t taken =
      let l = layout_at s (at + 3) in
      let ts = sh.tensors in
      let sh' = with_tensors sh (more_layout ts l) in
      let may = taken.may in
      let room : ts.layouts < length ts.layout = omega (arith, g.grown.places.layout, layout_place (given_of sh) may) in
      let more = bytes_layout sh l room (no_views (given_of sh) may) (no_steps (given_of sh) may) in
      let long = layout_at_long s (at + 3) len taken.head in
      record {
        grown = layout_grown sh g.grown l may taken.ok;
        layouts =
            λ k h.
            set_keeps LayoutArrays (the_layout [] 0) ts.layout ts.layouts l room
            (layout_at_shaped s (at + 3) len taken.head).five k (g.layouts k h);
        views = g.views;
        ends = ends_more s at sh sh' layout_tag (layout_bytes l) g more long;
        inside = inside;
        fits =
            λ b.
            record {
              layouts =
                  λ k.
                  set_keeps LayoutFits (the_layout [] 0) ts.layout ts.layouts l room
                  (layout_at_fits s (at + 3) len taken.head b) k ((g.fits b).layouts k);
              views = (g.fits b).views;
              steps = (g.fits b).steps;
            };
        stands = stands_more s at sh sh' layout_tag (layout_bytes l) g more long t (has_layout s (at + 3) len taken.head);
      }

  view_from : tag_at s at ≡ view_tag → ViewTaken s (at + 3) (length_at s at) (given_of sh) → GrownFrom s (next_at s at) (with_tensors sh (more_view sh.tensors (view_at s (at + 3))))
  view_from t taken =
      let v = view_at s (at + 3) in
      let ts = sh.tensors in
      let sh' = with_tensors sh (more_view ts v) in
      let may = taken.may in
      let room : ts.views < length ts.view = omega (arith, g.grown.places.view, view_place (given_of sh) may) in
      let more = bytes_view sh v room (view_no_steps (given_of sh) may) in
      let long = view_at_long s (at + 3) len taken.head in
      let shape = view_at_shaped s (at + 3) len taken.head in
      record {
        grown = view_grown sh g.grown v may taken.ok;
        layouts = g.layouts;
        views =
            λ k h.
            set_keeps ViewArrays (the_view [] 0) ts.view ts.views v room
            (record { permutation = shape.entries; dimensions = shape.five }) k (g.views k h);
        ends = ends_more s at sh sh' view_tag (view_bytes v) g more long;
        inside = inside;
        fits =
            λ b.
            record {
              layouts = (g.fits b).layouts;
              views =
                  λ k.
                  set_keeps ViewFits (the_view [] 0) ts.view ts.views v room (view_at_fits s (at + 3) len taken.head b) k
                  ((g.fits b).views k);
              steps = (g.fits b).steps;
            };
        stands = stands_more s at sh sh' view_tag (view_bytes v) g more long t (has_view s (at + 3) len taken.head);
      }

  step_from : (taken : StepTaken s (at + 3) (length_at s at) (given_of sh) (tag_at s at)) → fill_tag ≤ tag_at s at → tag_at s at ≤ last_step_tag → GrownFrom s (next_at s at) (with_step sh (step_at sh.edition s (tag_at s at) (at + 3)))
  step_from taken low high =
      let st = step_at sh.edition s (tag_at s at) (at + 3) in
      let sh' = with_step sh st in
      let may = taken.may in
      let c : Cell = record { step = st } in
      let r = step_read s (at + 3) sh.edition sh.tensors.layouts sh.tensors.views (tag_at s at) low high taken.ok in
      let room : sh.steps < length sh.step = omega (arith, g.grown.places.step, step_place (given_of sh) may) in
      let more = bytes_step sh st room in
      let long : length (step_bytes sh.edition st) ≡ length_at s at = r.long ∙ sym taken.long in
      record {
        grown = step_grown sh g.grown st may taken.ok;
        layouts = g.layouts;
        views = g.views;
        ends = ends_more s at sh sh' (step_tag st) (step_bytes sh.edition st) g more long;
        inside = inside;
        fits =
            λ b.
            record {
              layouts = (g.fits b).layouts;
              views = (g.fits b).views;
              steps =
                  λ k.
                  set_keeps (λ (c : Cell). StepFits c.step) no_cell sh.step sh.steps c room (r.fits b) k ((g.fits b).steps k);
            };
        stands = stands_more s at sh sh' (step_tag st) (step_bytes sh.edition st) g more long (sym r.tagged) r.stands;
      }

  field_from : Took s (at + 3) (length_at s at) (given_of sh) (tag_at s at) → GrownFrom s (next_at s at) (with_field s (tag_at s at) (at + 3) sh)
  field_from (edition e t) = absurd (omega (arith, t.first, edition_some sh.edition g.grown.within.edition))
  field_from (layout e t) = rw (with_layout s (tag_at s at) (at + 3) sh e refl refl) at (layout_from e t)
  field_from (view e t) = rw (with_view s (tag_at s at) (at + 3) sh e refl refl) at (view_from e t)
  field_from (step e f t) =
      rw (with_step_lem s (tag_at s at) (at + 3) sh (λ z. omega arith) (λ z. omega arith) (λ z. omega arith) refl) at (step_from t e f)

empty_fits : SheetFits empty_sheet
unfolding empty_sheet no_tensors no_layout no_view
empty_fits =
    record {
      layouts =
          none_all LayoutFits layout_places no_layout (the_layout [] 0)
          (record { clamp = omega arith; dimension = none_all DimensionFits rank_places no_dimension no_dimension d d })
          (record { clamp = omega arith; dimension = λ k. d });
      views =
          none_all ViewFits view_places no_view (the_view [] 0)
          (record {
            stride = none_all (λ (d : ViewDimension). U16 d.stride) rank_places no_view_dimension no_view_dimension (omega arith) (omega arith);
            rows = c;
            columns = c;
          })
          (record { stride = λ k. omega arith; rows = c; columns = c });
      steps = none_all (λ (c : Cell). StepFits c.step) step_places no_cell no_cell tt tt;
    }
  where
    d : DimensionFits no_dimension
    d = record { stride = omega arith; offset = omega arith }

    c : ClipFits no_clip
    c = record { offset = omega arith; span = omega arith }

empty_layouts : (k : ℕ) → k < layout_places → LayoutArrays (the_layout empty_sheet.tensors.layout k)
unfolding empty_sheet no_tensors no_layout
empty_layouts k h = rw (get_or-replicate layout_places k no_layout (the_layout [] 0) h)

empty_views : (k : ℕ) → k < view_places → ViewArrays (the_view empty_sheet.tensors.view k)
unfolding empty_sheet no_tensors no_view
empty_views k h = rw (get_or-replicate view_places k no_view (the_view [] 0) h) (record { permutation = refl; dimensions = refl })

module _ (s : List ℕ) where
  edition_from : next_at s 0 ≤ length s → Took s 3 (length_at s 0) (given_of empty_sheet) (tag_at s 0) → GrownFrom s (next_at s 0) (with_field s (tag_at s 0) 3 empty_sheet)
  unfolding empty_sheet no_tensors sheet_bytes each field_bytes
  edition_from inside took =
      let f = first_edition s (tag_at s 0) 3 (length_at s 0) took in
      let one = f.1.one in
      let g : GrownFrom s (next_at s 0) (with_edition empty_sheet (get_or s 3 0)) =
      record {
        grown = edition_grown (get_or s 3 0) f.1.known;
        layouts = empty_layouts;
        views = empty_views;
        ends = rw one;
        inside = inside;
        fits = λ b. record { layouts = empty_fits.layouts; views = empty_fits.views; steps = empty_fits.steps };
        stands = λ b. field_stands s 0 edition_tag (get_or s 3 0 ∷ []) b f.0 (sym one) (refl, tt);
      } in
      rw (with_edition_lem s (tag_at s 0) 3 empty_sheet f.0) at g

  -- nothing has been read, or the sheet has grown so far
  abbrev pub SoFar : ℕ → Sheet → Type 0
  SoFar at sh = ((at ≡ 0) × (sh ≡ empty_sheet)) ⊎ GrownFrom s at sh

  module _ (R : ReadAnswer → Type 0) (refused : (n at : ℕ) → 1 ≤ n → n ≤ unknown_edition → at ≤ longest → R (refused_read n at)) (accepted : (sh : Sheet) → GrownFrom s (length s) sh → R (accepted_read sh)) where
    start_ways : Ways s SoFar R 0 empty_sheet
    unfolding empty_sheet end_read pick
    start_ways =
        record {
          refused = λ n h m. refused n 0 h m (omega arith);
          ended = λ h. refused out_of_order (length s) (omega arith) (omega arith) (omega arith);
          taken = λ h t. inr (edition_from h t);
        }

    grown_ways : (at : ℕ) (sh : Sheet) → GrownFrom s at sh → Ways s SoFar R at sh
    unfolding end_read pick
    grown_ways at sh g =
        let w = g.grown.within in
        record {
          refused = λ n h m. refused n at h m (omega (arith, g.ends, sheet_short sh w));
          ended =
              λ h.
              let q : at ≡ length s = omega (arith, g.inside) in
              rw (le-ltb sh.edition 1 (edition_some sh.edition w.edition)) (accepted sh (rw q at g));
          taken = λ h t. inr (field_from s at sh g h t);
        }

    pub ways : (at : ℕ) (sh : Sheet) → SoFar at sh → Ways s SoFar R at sh
    ways at sh p = ⊎_elim (λ q. rw (q.0, q.1) start_ways) (λ q. grown_ways at sh q) p

    -- a reading is a refusal at one of the first bytes, or accepts a sheet that has grown from all the bytes
    pub reading : R (read_sheet s)
    reading = reads s SoFar R (inl (refl, refl)) ways

-- What stands past a prefix cannot change what a reading gives.
use Prim.Native.Nat.{ℕ, zero, suc, ◌+◌, ◌-◌, ◌<◌, ◌≤◌}
use Rattle.std.specs.Prelude.{◌≡◌, Bool, true, false, List, length, get_or}
use Rattle.std.proofs.Math.Path.{refl, ap}
use Rattle.std.proofs.Common.{sym, ◌∙◌, inl, ⊎_elim, arith}
use borrow.Author.Tests.{eqb-true, lt-ltb, le-ltb, le-leb}
use Rattle.std.proofs.Math.Dec.{eqb}
use Rattle.numbers.specs.Choice.{pick}
use Rattle.numbers.specs.Little.{u16_at, u32_at}
use Rattle.numbers.specs.Bytes.{AreBytes}
use Rattle.sheet_ranges.specs.Sheets.{empty_sheet}
use Rattle.sheet.specs.declared.Sheet.{Sheet}
use Rattle.fields.specs.Fields.{field_at}
use Rattle.fields.specs.declared.Cursor.{Cursor}
use Rattle.fields.specs.declared.Field.TheVariants.{Whole}
use Rattle.contents.specs.Contents.{layout_at, layout_head_ok, view_at, view_head_ok}
use Rattle.step_contents.specs.Contents.{fill_at, window_at, load_at, store_at, reduce_at, transpose_at, multiply_at, vector_numbers, vector_at, step_at}
use Rattle.sheet_reader.specs.Reading.{given_of, edition_refusal, layout_refusal, view_refusal, step_refusal, field_refusal, with_edition, with_field, refused_read, Turn, over, on, turn_field, turn, after_turn, read_from, read_sheet}
use Rattle.sheet_reader.specs.Laws.Taken.{Took, edition, layout, view, step, took}
use Rattle.sheet_reader.specs.Laws.Turns.{with_edition_lem, with_layout, with_view, with_step_lem}
use Rattle.sheet_reader.specs.Laws.Ways.{tag_at, length_at, next_at, Goes, Ways, turn_goes}
use Rattle.sheet_reader.specs.declared.Given.{Given}
use Rattle.sheet_reader.specs.declared.ReadAnswer.{ReadAnswer}
use Rattle.sheet_bytes.specs.Bytes.{layout_bytes, view_bytes}
use Rattle.round_trip.specs.Longest.{longest, enough}
use Rattle.fields.specs.Laws.Stretches.{has_same, u16_below}
use Rattle.round_trip.proofs.Laws.Layouts.{layout_at_shaped, layout_at_long, layout_of, has_layout}
use Rattle.round_trip.proofs.Laws.Views.{view_at_shaped, view_at_long, view_of_lem, has_view}
use Rattle.round_trip.proofs.Laws.Sheets.{sheet_short}
use Rattle.round_trip.proofs.Laws.Growing.{SoFar, ways}

-- choices that go the same way give the same
pick_same : {A : Type 0} (a b : Bool) (x y x' y' : A) → a ≡ b → (a ≡ true → x ≡ x') → (a ≡ false → y ≡ y') → pick a x y ≡ pick b x' y'
unfolding pick
pick_same true b x y x' y' e f g = rw (← e) (f refl)
pick_same false b x y x' y' e f g = rw (← e) (g refl)

-- a turn that goes on goes on further along
ways_on : (s : List ℕ) (P : ℕ → Sheet → Type 0) (R : ReadAnswer → Type 0) (at : ℕ) (sh : Sheet) → Ways s P R at sh → Ways s (λ (at' : ℕ) (sh' : Sheet). P at' sh' × (at < at')) R at sh
ways_on s P R at sh w = record { refused = w.refused; ended = w.ended; taken = λ h t. (w.taken h t, omega arith) }

module _ (s t : List ℕ) (bs : AreBytes s) (bt : AreBytes t) (same : (i : ℕ) → i < enough → get_or s i 0 ≡ get_or t i 0) where
  -- the content of a field
  module _ (p : ℕ) (small : p ≤ longest + 3) (len : ℕ) (short : len ≤ 65535) where
    u16_same : (q : ℕ) → q ≤ p + 17 → u16_at s q ≡ u16_at t q
    unfolding u16_at
    u16_same q h = rw (same q (omega arith), same (q + 1) (omega arith))

    u32_same : (q : ℕ) → q ≤ p + 15 → u32_at s q ≡ u32_at t q
    unfolding u32_at
    u32_same q h = rw (u16_same q (omega arith), u16_same (q + 2) (omega arith))

    layout_head_same : layout_head_ok s p len ≡ layout_head_ok t p len
    unfolding layout_head_ok
    layout_head_same = rw (same p (omega arith), same (p + 1) (omega arith))

    layout_at_same : layout_head_ok s p len ≡ true → layout_at s p ≡ layout_at t p
    layout_at_same e =
        let l = layout_at s p in
        let n = layout_at_long s p len e in
        sym (layout_of t p l (layout_at_shaped s p len e) (has_same s t p 0 (layout_bytes l) (λ k h. same k (omega arith)) (has_layout s p len e bs)))

    view_head_same : view_head_ok s p len ≡ view_head_ok t p len
    unfolding view_head_ok
    view_head_same = rw (same p (omega arith), same (p + 1) (omega arith))

    view_at_same : view_head_ok s p len ≡ true → view_at s p ≡ view_at t p
    view_at_same e =
        let v = view_at s p in
        let n = view_at_long s p len e in
        sym (view_of_lem t p v (view_at_shaped s p len e) (has_same s t p 0 (view_bytes v) (λ k h. same k (omega arith)) (has_view s p len e bs)))

    window_same : (q : ℕ) → q ≤ p + 2 → window_at s q ≡ window_at t q
    unfolding window_at
    window_same q h = rw (same q (omega arith), same (q + 1) (omega arith), u32_same (q + 2) (omega arith))

    step_at_same : (edition tag : ℕ) → step_at edition s tag p ≡ step_at edition t tag p
    unfolding step_at fill_at load_at store_at reduce_at transpose_at multiply_at vector_at vector_numbers
    step_at_same n tag =
        rw (
          same p (omega arith),
          same (p + 1) (omega arith),
          same (p + 2) (omega arith),
          same (p + 3) (omega arith),
          same (p + 4) (omega arith),
          same (p + 5) (omega arith),
          same (p + 6) (omega arith),
          same (p + 7) (omega arith),
          same (p + 14) (omega arith),
          u16_same (p + 8) (omega arith),
          u32_same (p + 4) (omega arith),
          u32_same (p + 10) (omega arith),
          u32_same (p + 15) (omega arith),
          window_same (p + 1) (omega arith),
          window_same (p + 2) (omega arith),
        )

    -- it is judged the same
    module _ (g : Given) where
      edition_same : edition_refusal s p len g ≡ edition_refusal t p len g
      unfolding edition_refusal
      edition_same = rw (same p (omega arith))

      layout_same : layout_refusal s p len g ≡ layout_refusal t p len g
      unfolding layout_refusal
      layout_same =
          pick_same _ _ _ _ _ _ refl
          (λ a.
          pick_same _ _ _ _ _ _ refl (λ b. pick_same _ _ _ _ _ _ layout_head_same (λ e. rw (layout_at_same e)) (λ e. refl)) (λ b. refl))
          (λ a. refl)

      view_same : view_refusal s p len g ≡ view_refusal t p len g
      unfolding view_refusal
      view_same =
          pick_same _ _ _ _ _ _ refl
          (λ a.
          pick_same _ _ _ _ _ _ refl (λ b. pick_same _ _ _ _ _ _ view_head_same (λ e. rw (view_at_same e)) (λ e. refl)) (λ b. refl))
          (λ a. refl)

      step_same : (tag : ℕ) → step_refusal s tag p len g ≡ step_refusal t tag p len g
      unfolding step_refusal
      step_same tag = rw (step_at_same g.edition tag)

      judged_same : (tag : ℕ) → field_refusal s tag p len g ≡ field_refusal t tag p len g
      unfolding field_refusal
      judged_same tag = rw (edition_same, layout_same, view_same, step_same tag)

    -- and where it is taken, it adds the same part
    part_same : (sh : Sheet) (tag : ℕ) → Took s p len (given_of sh) tag → with_field s tag p sh ≡ with_field t tag p sh
    part_same sh tag (edition e k) =
        sym (with_edition_lem s tag p sh e) ∙ ap (with_edition sh) (same p (omega arith)) ∙ with_edition_lem t tag p sh e
    part_same sh tag (layout e k) = sym (with_layout s tag p sh e refl refl) ∙ with_layout t tag p sh e (layout_at_same k.head) refl
    part_same sh tag (view e k) = sym (with_view s tag p sh e refl refl) ∙ with_view t tag p sh e (view_at_same k.head) refl
    part_same sh tag (step e f k) =
        sym (with_step_lem s tag p sh (λ z. omega arith) (λ z. omega arith) (λ z. omega arith) refl)
        ∙ with_step_lem t tag p sh (λ z. omega arith) (λ z. omega arith) (λ z. omega arith) (step_at_same sh.edition tag)

    field_same : (at : ℕ) (sh : Sheet) (tag : ℕ) (next : Cursor) → turn_field s at sh (Whole tag p len next) ≡ turn_field t at sh (Whole tag p len next)
    unfolding turn_field
    field_same at sh tag next =
        let e = judged_same (given_of sh) tag in
        pick_same _ _ _ _ _ _ (ap (λ (n : ℕ). eqb n 0) e)
        (λ a. ap (on next.at) (part_same sh tag (took s p len (given_of sh) tag (eqb-true _ 0 a))))
        (λ a. ap (λ (n : ℕ). over (refused_read n at)) e)

  length_same : (at : ℕ) → at ≤ longest → length_at s at ≡ length_at t at
  unfolding u16_at
  length_same at l = rw (same (at + 1) (omega arith), same (at + 1 + 1) (omega arith))

  module _ (long-s : enough ≤ length s) (long-t : enough ≤ length t) where
    -- a field's head is there, and so is its content
    head_whole : (u : List ℕ) → AreBytes u → enough ≤ length u → (at : ℕ) → at ≤ longest → field_at u at ≡ Whole (tag_at u at) (at + 3) (length_at u at) (record { at = next_at u at })
    unfolding field_at pick
    head_whole u b h at l =
        let n = u16_below u b (at + 1) in
        rw (le-ltb (length u - at) 3 (omega arith), le-leb (length_at u at) (length u - (at + 3)) (omega arith))

    turn_same : (at : ℕ) (sh : Sheet) → at ≤ longest → turn s at sh ≡ turn t at sh
    unfolding turn pick
    turn_same at sh l =
        let n = u16_below t bt (at + 1) in
        let e : length_at s at ≡ length_at t at = length_same at l in
        rw (
          lt-ltb at (length s) (omega arith),
          lt-ltb at (length t) (omega arith),
          head_whole s bs long-s at l,
          head_whole t bt long-t at l,
          e,
          same at (omega arith),
        )
        (field_same (at + 3) (omega arith) (length_at t at) (omega arith) at sh (tag_at t at) (record { at = next_at t at }))

    at_small : (at : ℕ) (sh : Sheet) → SoFar s at sh → at ≤ longest
    at_small at sh p = ⊎_elim (λ q. omega (arith, q.0)) (λ g. rw g.ends (sheet_short sh g.grown.within)) p

    -- what a turn goes on with
    Further : ℕ → ℕ → Sheet → Type 0
    Further at at' sh' = SoFar s at' sh' × (at < at')

    after_same : (at : ℕ) (f g : ℕ → Sheet → ReadAnswer) → ((at' : ℕ) (sh' : Sheet) → Further at at' sh' → f at' sh' ≡ g at' sh') → (u : Turn) → Goes (Further at) (λ (r : ReadAnswer). Unit {0}) u → after_turn f u ≡ after_turn g u
    unfolding after_turn
    after_same at f g e (over r) h = refl
    after_same at f g e (on at' sh') h = e at' sh' h

    from_same : (m n at : ℕ) (sh : Sheet) → SoFar s at sh → longest < at + m → longest < at + n → read_from m s at sh ≡ read_from n t at sh
    unfolding read_from Further
    from_same zero n at sh p h k = absurd (omega (arith, at_small at sh p))
    from_same (suc m) zero at sh p h k = absurd (omega (arith, at_small at sh p))
    from_same (suc m) (suc n) at sh p h k =
        let w = ways s (λ (r : ReadAnswer). Unit {0}) (λ n at h m l. tt) (λ sh g. tt) at sh p in
        after_same at (read_from m s) (read_from n t) (λ at' sh' q. from_same m n at' sh' q.0 (omega (arith, q.1)) (omega (arith, q.1))) (turn s at sh)
        (turn_goes s (Further at) (λ (r : ReadAnswer). Unit {0}) at sh (ways_on s (SoFar s) (λ (r : ReadAnswer). Unit {0}) at sh w))
        ∙ ap (after_turn (read_from n t)) (turn_same at sh (at_small at sh p))

    pub same_answer : read_sheet s ≡ read_sheet t
    unfolding read_sheet
    same_answer = from_same (suc (length s)) (suc (length t)) 0 empty_sheet (inl (refl, refl)) (omega arith) (omega arith)

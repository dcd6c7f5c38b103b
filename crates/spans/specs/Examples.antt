-- Worked examples: a layout of spans 1, 1, 4, 1, 8.
use Rattle.std.specs.Prelude.{ℕ, ◌≡◌, refl, [], ◌∷◌}
use Rattle.numbers.specs.Choice.{pick, both}
use Rattle.sheet.specs.declared.ClampMode.TheVariants.{Undefined}
use Rattle.sheet.specs.declared.Dimension.{Dimension}
use Rattle.sheet.specs.declared.Layout.{Layout}
use Rattle.view_indices.specs.Indices.{coordinates}
use Rattle.spans.specs.Spans.{span_coordinates, divides, split_by, divided_from, divided}
use Rattle.spans.specs.Needed.{how_many, index_at, needed_divisions}

abbrev dimension : ℕ → Dimension
dimension span = record { block = 1; size = 16; stride = 1; offset = 0; span = span }

abbrev layout : Layout
layout =
    record {
      rank = 5;
      mode = Undefined;
      clamp = 0;
      dimensions = dimension 1 ∷ dimension 1 ∷ dimension 4 ∷ dimension 1 ∷ dimension 8 ∷ [];
    }

-- 37 is 5 past 4 times 8, and 4 is 0 past 1 times 4: two divisions; what is left, 1, meets spans of 1
both_spans : divided layout 37 ≡ record { coordinates = 0 ∷ 0 ∷ 0 ∷ 0 ∷ 5 ∷ []; divisions = 2 }
unfolding divided divided_from split_by divides pick both
both_spans = refl

-- 5 is below 8: one division, and the index is 0
last_span : divided layout 5 ≡ record { coordinates = 0 ∷ 0 ∷ 0 ∷ 0 ∷ 5 ∷ []; divisions = 1 }
unfolding divided divided_from split_by divides pick both
last_span = refl

-- an index of 0 takes none
no_span : divided layout 0 ≡ record { coordinates = 0 ∷ 0 ∷ 0 ∷ 0 ∷ 0 ∷ []; divisions = 0 }
unfolding divided divided_from split_by divides pick both
no_span = refl

-- the plain rule, and the count by the sentence's own words
plain : span_coordinates layout 29 ≡ 0 ∷ 0 ∷ 3 ∷ 0 ∷ 5 ∷ []
unfolding span_coordinates coordinates
plain = refl

needed : needed_divisions layout 37 ≡ 2
unfolding how_many index_at pick both
needed = refl

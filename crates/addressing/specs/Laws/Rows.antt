-- The element of a row, by the row's part and its own.
use Rattle.std.specs.Prelude.{ℕ, zero, suc, ◌+◌, ◌-◌, ◌*◌, ◌/◌, ◌%◌, ◌^◌, ◌<◌, ◌≤◌, ◌≡◌, Bool, true, false, List, length, get_or, set, replicate}
use Rattle.std.proofs.Math.Path.{refl, ap}
use Rattle.std.proofs.Common.{sym, ◌∙◌, not-suc-le-zero, div-add-mod', arith, length-set, get_or-set_same}
use Rattle.std.proofs.Math.Arith.{digits_div, digits_mod}
use Rattle.std.proofs.lemmas.Bool.{lt-leb}
use Rattle.numbers.specs.Choice.{pick}
use Rattle.tensor_ranges.specs.Laws.Facts.{layout_some, layout_most}
use Rattle.tensor_ranges.specs.Layouts.{the_dimension, layout_ok}
use Rattle.sheet.specs.Sizes.{rank_places}
use Rattle.sheet.specs.declared.Layout.{Layout}
use Rattle.view_indices.specs.Indices.{span_of, coordinates}
use Rattle.spans.specs.Spans.{span_coordinates}
use Rattle.spans.specs.Laws.Coordinates.{coordinates_keep}
use Rattle.sheet.specs.declared.ClampMode.{ClampMode}
use Rattle.sheet.specs.declared.Dimension.{Dimension}
use Rattle.clamps.specs.Clamps.{coordinate_of, clamped}
use Rattle.clamps.proofs.Laws.Clamps.{stop_of, AtOr, clamped_one}
use Rattle.clamps.specs.declared.Clamped.{Clamped}
use Rattle.clamps.specs.declared.Clamped.TheVariants.{Refused, Discarded, Filled, At}
use Rattle.addressing.specs.declared.Access.{Access}
use Rattle.addressing.specs.declared.Indexed.TheVariants.{Index}
use Rattle.addressing.specs.Rules.{scaled, part, plus, tensor_index, reached, indexed, landed, located}
use Rattle.addressing.specs.Rows.{up_to, last_of, cell_of}
use Rattle.addressing.specs.Valid.{ValidAccess}

-- coordinates that are kept in a list, and those that are used as they are found
tensor_up : (load : Bool) (l : Layout) (n index : ℕ) (cs : List ℕ) → n ≤ length cs
    → tensor_index load l (coordinates (λ (d : ℕ). d) (span_of l) n index cs) n ≡ up_to load l n index
unfolding tensor_index up_to coordinates
tensor_up load l zero index cs h = refl
tensor_up load l (suc n) index cs h =
    let rest = index % span_of l n in
    let ds = set cs n rest in
    let e : get_or (coordinates (λ (d : ℕ). d) (span_of l) n (index / span_of l n) ds) n 0 ≡ rest =
    coordinates_keep (span_of l) n (index / span_of l n) ds n (omega arith) ∙ get_or-set_same cs n rest 0 (omega arith) in
    rw (e, tensor_up load l n (index / span_of l n) ds (omega (arith, length-set cs n rest))) refl

pub tensor_is_up : (load : Bool) (l : Layout) → layout_ok l ≡ true → (index : ℕ)
    → tensor_index load l (span_coordinates l index) l.rank ≡ up_to load l l.rank index
unfolding span_coordinates
tensor_is_up load l ok index = tensor_up load l l.rank index (replicate rank_places 0) (layout_most l ok)

pub up_last : (load : Bool) (l : Layout) (d index : ℕ) → 0 < d
    → up_to load l d index ≡ plus (up_to load l (d - 1) (index / span_of l (d - 1))) (part load l.mode (the_dimension l.dimensions (d - 1)) (index % span_of l (d - 1)))
unfolding up_to
up_last load l zero index h = absurd (not-suc-le-zero h)
up_last load l (suc d) index h = let q : suc d - 1 ≡ d = omega arith in rw q refl

-- Rules 4 and 5: an index, or what all dimensions that are outside have in common
scaled_one : (z : Clamped) (d : Dimension) (x : Clamped) → AtOr z x → AtOr z (scaled d x)
scaled_one z d Refused h = h
scaled_one z d Discarded h = h
scaled_one z d Filled h = h
scaled_one z d (At x) h = h

pub part_one : (load : Bool) (mode : ClampMode) (d : Dimension) (s : ℕ) → AtOr (stop_of load mode) (part load mode d s)
unfolding part
part_one load mode d s =
    scaled_one (stop_of load mode) d (clamped load mode (coordinate_of d s) d.size) (clamped_one load mode (coordinate_of d s) d.size)

plus_one : (z x y : Clamped) → AtOr z x → AtOr z y → AtOr z (plus x y)
plus_one z Refused y g h = g
plus_one z Discarded y g h = g
plus_one z Filled y g h = g
plus_one z (At x) Refused g h = h
plus_one z (At x) Discarded g h = h
plus_one z (At x) Filled g h = h
plus_one z (At x) (At y) g h = tt

pub up_one : (load : Bool) (l : Layout) (n index : ℕ) → AtOr (stop_of load l.mode) (up_to load l n index)
unfolding up_to
up_one load l zero index = tt
up_one load l (suc n) index =
    plus_one (stop_of load l.mode) (up_to load l n (index / span_of l n)) (part load l.mode (the_dimension l.dimensions n) (index % span_of l n))
    (up_one load l n (index / span_of l n)) (part_one load l.mode (the_dimension l.dimensions n) (index % span_of l n))

-- beside one that is outside the others do not count
pub plus_stop : (z x y : Clamped) → AtOr z x → z ≡ y → ((a : ℕ) → plus (At a) y ≡ y) → plus x y ≡ y
plus_stop z Refused y g h after = sym g ∙ h
plus_stop z Discarded y g h after = sym g ∙ h
plus_stop z Filled y g h after = sym g ∙ h
plus_stop z (At a) y g h after = after a

-- the element at span coordinate s of row q
module _ (a : Access) (ok : ValidAccess a) (plain : a.viewed ≡ false) where
  plain_index : (row col : ℕ) → indexed a row col ≡ Index (row * a.columns + col)
  unfolding indexed pick
  plain_index row col = rw plain refl

  pub plain_reached : (k : ℕ) → located a (k / a.columns) (k % a.columns) ≡ reached a k
  unfolding located
  plain_reached k = ap (landed a) (plain_index (k / a.columns) (k % a.columns)) ∙ ap (λ (i : ℕ). reached a i) (div-add-mod' k a.columns)

  pub row_cell : (q s : ℕ) → s < (last_of a.layout).span → q * (last_of a.layout).span + s < 2 ^ 32
      → located a ((q * (last_of a.layout).span + s) / a.columns) ((q * (last_of a.layout).span + s) % a.columns)
      ≡ cell_of a (up_to a.load a.layout (a.layout.rank - 1) q) s
  unfolding reached pick
  row_cell q s h m =
      let l = a.layout in
      let k = q * (last_of l).span + s in
      plain_reached k
      ∙ rw (lt-leb (2 ^ 32) k m, tensor_is_up a.load l ok.sized.layout k, up_last a.load l l.rank k (layout_some l ok.sized.layout), digits_div q h, digits_mod q h) refl

-- What the tests of a field's head tell.
use Rattle.std.specs.Prelude.{ℕ, ◌≤◌, ◌≡◌, Bool, true, false, List, get_or}
use Rattle.std.proofs.Common.{⊎_elim, arith, eqb-true}
use Rattle.numbers.specs.Choice.{pick}
use Rattle.numbers.specs.Laws.Choice.{both_left, both_right, between_low, between_high, pick_inv}
use Rattle.sheet.specs.Sizes.{rank_places, rank_ok}
use Rattle.tensor_ranges.specs.Views.{sized_rank}
use Rattle.contents.specs.Contents.{layout_length, layout_length_ok, layout_head_ok, view_length, view_length_ok, view_head_ok, has_dimensions}

-- a layout's head
pub record LayoutHead (s : List ℕ) (p len : ℕ) : Type 0 where
  pub few : get_or s p 0 ≤ rank_places
  pub fills : layout_length (get_or s p 0) ≡ len

pub layout_head : (s : List ℕ) (p len : ℕ) → layout_head_ok s p len ≡ true → LayoutHead s p len
unfolding layout_head_ok
layout_head s p len e =
    let r : rank_ok (get_or s p 0) ≡ true = both_left _ _ e in
    let t = both_right _ _ e in
    record { few = between_high 1 rank_places (get_or s p 0) r; fills = eqb-true _ _ (both_left _ _ t) }

-- a view's head: how many dimensions, and how many with sizes
pub record ViewHead (s : List ℕ) (p len : ℕ) : Type 0 where
  pub few : get_or s p 0 ≤ rank_places
  pub own : sized_rank (has_dimensions s p) (get_or s p 0) ≤ rank_places
  pub fills : view_length (get_or s p 0) (sized_rank (has_dimensions s p) (get_or s p 0)) ≡ len

pub sized_few : (b : Bool) (n m : ℕ) → n ≤ m → sized_rank b n ≤ m
unfolding sized_rank pick
sized_few true n m h = h
sized_few false n m h = omega arith

pub view_head : (s : List ℕ) (p len : ℕ) → view_head_ok s p len ≡ true → ViewHead s p len
unfolding view_head_ok
view_head s p len e =
    let r : get_or s p 0 ≤ rank_places = between_high 1 rank_places (get_or s p 0) (both_left _ _ e) in
    let t = both_right _ _ e in
    record { few = r; own = sized_few _ _ rank_places r; fills = eqb-true _ _ (both_right _ _ t) }

-- a length that is a layout's or a view's leaves room for the head
pub layout_room : (len : ℕ) → layout_length_ok len ≡ true → 2 ≤ len
unfolding layout_length_ok
layout_room len e =
    let h : 16 ≤ len = between_low 16 56 len (both_left _ _ e) in
    omega arith

pub view_room : (len : ℕ) → view_length_ok len ≡ true → 2 ≤ len
unfolding view_length_ok
view_room len e =
    ⊎_elim (λ w. let h : 11 ≤ len = between_low 11 15 len w.0 in omega arith)
    (λ w. let h : 20 ≤ len = between_low 20 35 len (both_left _ _ w.1) in omega arith)
    (pick_inv _ _ _ e)

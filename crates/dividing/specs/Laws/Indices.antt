-- The divisions of an element, by the index that rules 1 and 2 give.
use Rattle.std.specs.Prelude.{ℕ, ◌^◌, ◌<◌, ◌≤◌, ◌≡◌}
use Rattle.std.proofs.Math.Path.{refl}
use Rattle.std.proofs.Common.{le-leb}
use Rattle.std.proofs.lemmas.Bool.{lt-leb}
use Rattle.numbers.specs.Choice.{pick}
use Rattle.sheet.specs.declared.Layout.{Layout}
use Rattle.spans.specs.Spans.{divided}
use Rattle.addressing.specs.declared.Indexed.TheVariants.{Index}
use Rattle.dividing.specs.Divisions.{index_divisions}

module _ (l : Layout) where
  pub large_divisions : (i : ℕ) → 2 ^ 32 ≤ i → index_divisions l (Index i) ≡ 0
  unfolding index_divisions pick
  large_divisions i h = rw (le-leb (2 ^ 32) i h) refl

  pub small_divisions : (i : ℕ) → i < 2 ^ 32 → index_divisions l (Index i) ≡ (divided l i).divisions
  unfolding index_divisions pick
  small_divisions i h = rw (lt-leb (2 ^ 32) i h) refl

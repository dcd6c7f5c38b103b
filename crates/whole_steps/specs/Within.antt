-- Whole steps whose registers, sides, kind and value are within Sizes: a bound that contracts cite.
use Rattle.std.specs.Prelude.{◌≡◌, true, ℕ, ◌<◌, ◌≤◌}
use Rattle.kinds.specs.Widths.{kind_ok, fits}
use Rattle.sheet.specs.Sizes.{register_count, side_places}
use Rattle.sheet.specs.declared.WholeStep.{WholeStep}
use Rattle.sheet.specs.declared.WholeStep.TheVariants.{Fill, Reduce, Transpose, MultiplyAdd, Vector}
use Rattle.vectors.specs.Within.{VectorParts}
use Rattle.whole_steps.specs.Whole.{whole_result}

pub record Side (x : ℕ) : Type 0 where
  pub low : 1 ≤ x
  pub high : x ≤ side_places

-- beside its result: the registers that it reads, its sides, its kind and its value
abbrev pub WholeParts : WholeStep → Type 0
WholeParts (Fill register rows columns kind value) = Side rows × Side columns × (kind_ok kind ≡ true) × (fits kind value ≡ true)
WholeParts (Reduce result source rows columns mode combine) = (source < register_count) × Side rows × Side columns
WholeParts (Transpose result source) = source < register_count
WholeParts (MultiplyAdd result a b c) = (a < register_count) × (b < register_count) × (c < register_count)
WholeParts (Vector v) = VectorParts v

pub record WholeOk (w : WholeStep) : Type 0 where
  pub result : whole_result w < register_count
  pub parts : WholeParts w

-- The byte of an element of a take or a put, as the code computes it: over the naturals, what goes down taken off last.
use Rattle.std.specs.Prelude.{ℕ, ◌+◌, ◌*◌, ◌-◌, ◌≡◌}
use Rattle.std.proofs.Common.{sym, ap, ◌∙◌, arith, le-leb}
use Rattle.std.proofs.Math.Path.{ap₂}
use Rattle.std.proofs.lemmas.Bool.{lt-leb}
use Rattle.std.proofs.Math.Dec.{leb}
use Rattle.numbers.specs.Choice.{both}
use Rattle.numbers.specs.Laws.Choice.{stop, both_true, by_order}
use Rattle.signed.specs.Numbers.{rise, fall, at_least}
use Rattle.signed.specs.Laws.Numbers.{least_parts}
use Rattle.records.specs.Laws.ByteSteps.{rise_step, fall_step}
use Rattle.judging.specs.Records.{signed_byte, byte_at, byte_inside}

module _ (byte up down i : ℕ) where
  pub byte_natural : byte_at byte up down i ≡ byte + i * up - i * down
  unfolding byte_at
  byte_natural = rise_step byte up down i

  above_natural : at_least 0 (signed_byte byte up down i) ≡ leb (i * down) (byte + i * up)
  above_natural =
      let z = signed_byte byte up down i in
      let down_to : fall z ≡ i * down - (byte + i * up) = fall_step byte up down i in
      least_parts 0 z
      ∙ by_order (byte + i * up) (i * down)
      (λ h. sym (stop _ (lt-leb (fall z) 0 (omega arith))) ∙ sym (lt-leb (i * down) (byte + i * up) h))
      (λ h. both_true _ _ (le-leb (fall z) 0 (omega arith)) (le-leb 0 (rise z) (omega arith)) ∙ sym (le-leb (i * down) (byte + i * up) h))

  pub inside_natural : (size len : ℕ) → byte_inside size len byte up down i ≡ both (leb (i * down) (byte + i * up)) (leb (byte + i * up - i * down + size) len)
  unfolding byte_inside
  inside_natural size len = ap₂ both above_natural (ap (λ (b : ℕ). leb (b + size) len) byte_natural)

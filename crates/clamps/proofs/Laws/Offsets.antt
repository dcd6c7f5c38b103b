-- The two halves of an offset's 16 bits.
use Rattle.std.specs.Prelude.{ℕ, suc, ◌-◌, ◌^◌, ◌<◌, ◌≤◌, ◌≡◌, refl, pos, negsuc}
use Rattle.std.proofs.Common.{arith}
use Rattle.kinds.specs.Widths.{s16}
use Rattle.kinds.specs.Laws.Signs.{value_lower, value_upper, width_s16}
use Rattle.clamps.specs.Clamps.{twos}

pub lower : (raw : ℕ) → raw < 32768 → twos raw ≡ pos raw
lower raw h = value_lower s16 raw (rw width_s16 (omega arith))

pub upper : (raw : ℕ) → raw < 65536 → 32768 ≤ raw → twos raw ≡ negsuc (65535 - raw)
upper raw l h =
    let e : 65535 - raw ≡ 2 ^ 16 - suc raw = omega arith in
    rw e (rw width_s16 at (value_upper s16 raw refl (rw width_s16 (omega arith)) (rw width_s16 l)))

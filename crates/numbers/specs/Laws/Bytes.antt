-- Bytes written over bytes leave bytes.
use Rattle.std.specs.Prelude.{ℕ, zero, suc, ◌+◌, ◌<◌, List, length, get_or, set}
use Rattle.std.proofs.Common.{arith, length-set, get_or-set_same, get_or-set_other}
use Rattle.std.proofs.Math.ListN.{get_or-eq_default}
use Rattle.numbers.specs.Lists.{line}
use Rattle.numbers.specs.Laws.Choice.{by_place, by_order}
use Rattle.numbers.specs.Bytes.{AreBytes}

-- past the end stands 0, a byte too
pub byte_at : (s : List ℕ) → AreBytes s → (i : ℕ) → get_or s i 0 < 256
byte_at s b i = by_order i (length s) (b i) (λ h. rw (get_or-eq_default s 0 h) (omega arith))

set_bytes : (s : List ℕ) (p x : ℕ) → AreBytes s → x < 256 → AreBytes (set s p x)
set_bytes s p x b h i l =
    let m : i < length s = rw (length-set s p x) at l in
    by_place i p (λ e. rw (e, get_or-set_same s p x 0 (omega arith)) h) (λ d. rw (get_or-set_other s p i x 0 d) (b i m))

pub line_bytes : (s : List ℕ) (p : ℕ) (g : ℕ → ℕ) (n : ℕ) → AreBytes s → ((i : ℕ) → g i < 256) → AreBytes (line s p g n)
unfolding line
line_bytes s p g zero b h = b
line_bytes s p g (suc n) b h = set_bytes (line s p g n) (p + n) (g n) (line_bytes s p g n b h) (h n)

-- The value of raw bits by sign. The odd kinds are signed, two's complement.
use Rattle.std.specs.Prelude.{ℕ, ◌*◌, ◌^◌, ◌%◌, Bool, eqb, leb, ℤ}
use Rattle.std.proofs.Math.IntN.{sub_ℕ}
use Rattle.numbers.specs.Choice.{pick, both}
use Rattle.kinds.specs.Widths.{width}

abbrev pub signed : ℕ → Bool
signed kind = eqb (kind % 2) 1

-- the top bit is set, in a signed kind
unfoldable pub negative : ℕ → ℕ → Bool
negative kind x = both (signed kind) (leb (2 ^ width kind) (2 * x))

-- what the sign takes off the raw bits
unfoldable pub taken : ℕ → ℕ → ℕ
taken kind x = pick (negative kind x) (2 ^ width kind) 0

unfoldable pub value : ℕ → ℕ → ℤ
value kind x = sub_ℕ x (taken kind x)

-- Rule 4 of "Where an element goes": what becomes of a coordinate over the n places of its dimension; and request T-06: on which side of them it is.
use Rattle.std.specs.Prelude.{ℕ, ◌-◌, ◌*◌, Bool, leb, eqb, ℤ, pos, negsuc, ◌+ℤ◌}
use Rattle.numbers.specs.Choice.{pick}
use Rattle.numbers.specs.Remainders.{remainder}
use Rattle.kinds.specs.Widths.{s16}
use Rattle.kinds.specs.Values.{value}
use Rattle.outcomes.specs.declared.Side.{Side}
use Rattle.outcomes.specs.declared.Side.TheVariants.{Inside, Below, Above}
use Rattle.sheet.specs.declared.ClampMode.{ClampMode}
use Rattle.sheet.specs.declared.ClampMode.TheVariants.{Undefined, Constant, ClampToEdge, Repeat, MirrorRepeat}
use Rattle.sheet.specs.declared.Dimension.{Dimension}
use Rattle.clamps.specs.declared.Clamped.{Clamped}
use Rattle.clamps.specs.declared.Clamped.TheVariants.{Refused, Discarded, Filled, At}
use Rattle.clamps.specs.declared.Sided.{Sided}

-- sixteen bits read as a signed number
abbrev pub twos : ℕ → ℤ
twos x = value s16 x

-- Rule 4: c = span coordinate + offset
abbrev pub coordinate_of : Dimension → ℕ → ℤ
coordinate_of d s = pos s +ℤ twos d.offset

-- Rule 4, ClampToEdge of a coordinate outside: 0 or n-1
abbrev pub edge : ℤ → ℕ → ℕ
edge (pos a) n = n - 1
edge (negsuc a) n = 0

-- Rule 4: c, and m-c if that is at or above n
unfoldable pub turned_back : ℕ → ℕ → ℕ → ℕ
turned_back n m c = pick (leb n c) (m - c) c

-- Rule 4, MirrorRepeat: m = 2n-2, c mod m, and m-c if that is at or above n; for n = 1 it gives 0
unfoldable pub mirrored : ℤ → ℕ → ℕ
mirrored c n = pick (eqb n 1) 0 (turned_back n (2 * n - 2) (remainder c (2 * n - 2)))

-- Rule 4 outside on a load
abbrev pub on_load : ClampMode → ℤ → ℕ → Clamped
on_load Undefined c n = Refused
on_load Constant c n = Filled
on_load ClampToEdge c n = At (edge c n)
on_load Repeat c n = At (remainder c n)
on_load MirrorRepeat c n = At (mirrored c n)

-- Rule 4 outside on a store: every other mode discards
abbrev pub on_store : ClampMode → Clamped
on_store Undefined = Refused
on_store Constant = Discarded
on_store ClampToEdge = Discarded
on_store Repeat = Discarded
on_store MirrorRepeat = Discarded

unfoldable pub outside : Bool → ClampMode → ℤ → ℕ → Clamped
outside load mode c n = pick load (on_load mode c n) (on_store mode)

-- Rule 4: a coordinate below 0 or at or above n is outside, any other stays
unfoldable pub clamped : Bool → ClampMode → ℤ → ℕ → Clamped
clamped load mode (negsuc a) n = outside load mode (negsuc a) n
clamped load mode (pos a) n = pick (leb n a) (outside load mode (pos a) n) (At a)

-- T-06: a coordinate below 0 is below, one at or above n is above, any other is inside
unfoldable pub side_of : ℤ → ℕ → Side
side_of (negsuc a) n = Below
side_of (pos a) n = pick (leb n a) Above Inside

-- T-06: rule 4 tells the side with what it gives
abbrev pub sided : Bool → ClampMode → ℤ → ℕ → Sided
sided load mode c n = record { side = side_of c n; clamped = clamped load mode c n }

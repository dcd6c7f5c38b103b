-- How the code holds a coordinate.
use Rattle.std.specs.Prelude.{ℤ, pos, negsuc}
use Rattle.clamps.specs.declared.Coordinate.{Coordinate}
use Rattle.clamps.specs.declared.Coordinate.TheVariants.{Below, At}

-- the integer that a coordinate of the code stands for
abbrev pub integer : Coordinate → ℤ
integer (Below a) = negsuc a
integer (At a) = pos a

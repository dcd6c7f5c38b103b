-- Laws that this crate's proofs cite, and a bound of the steps from element to element.
pub mod Reach
pub mod Refusals
pub mod Within
pub mod Saturation
pub mod Results
pub mod Fits
use Rattle.std.specs.Prelude.{ℕ, ◌<◌}
use Rattle.sheet.specs.declared.MemoryLayout.{MemoryLayout}
use Rattle.sheet.specs.declared.MemoryLayout.TheVariants.{RowMajor, ColumnMajor}
use Rattle.vectors.specs.Places.{by_layout}

-- each of two numbers is small
pub by_layout_lt : (l : MemoryLayout) (x y n : ℕ) → x < n → y < n → by_layout l x y < n
by_layout_lt RowMajor x y n a b = a
by_layout_lt ColumnMajor x y n a b = b

-- A take, a put and a fill in range, by their parts.
use Rattle.std.specs.Prelude.{ℕ, ◌+◌, ◌*◌, ◌^◌, ◌<◌, ◌≤◌, ◌≡◌, Bool, true, false, not}
use Rattle.std.proofs.Common.{sym, ap, ◌∙◌, mul-le-mul, arith}
use borrow.Author.Tests.{leb-true, ltb-true, not-true}
use Rattle.numbers.specs.Laws.Choice.{both_left, both_right}
use Rattle.numbers.specs.Laws.All.{all_at}
use Rattle.kinds.specs.Widths.{width, bytes_of, fits}
use Rattle.sheet.specs.Sizes.{matrix_places}
use Rattle.registers.specs.Types.{is_empty}
use Rattle.registers.specs.Sized.{SizedType}
use Rattle.registers.specs.Laws.Sized.{sized_places}
use Rattle.registers.specs.declared.MatrixType.{MatrixType}
use Rattle.judging.specs.Laws.Bytes.{byte_natural, inside_natural}
use Rattle.judging.specs.Records.{elements_ok, byte_at, byte_inside, bytes_inside, bytes_record_ok, fill_record_ok}

-- a test that a call made, turned over
pub not_on : {r t : Bool} → r ≡ t → r ≡ true → not t ≡ false
not_on p q = ap not (sym p ∙ q)

pub not_off : {r t : Bool} → r ≡ t → r ≡ false → not t ≡ true
not_off p q = ap not (sym p ∙ q)

pub ruleset turned = (not_on, not_off)

-- every byte of element i lies in memory
pub record Lies (size len byte up down i : ℕ) : Type 0 where
  pub above : i * down ≤ byte + i * up
  pub below : byte_at byte up down i + size ≤ len

pub inside_lies : (size len count byte up down : ℕ) → bytes_inside size len count byte up down ≡ true → (i : ℕ) → i < count → Lies size len byte up down i
inside_lies size len count byte up down e i h =
    let f = sym (inside_natural byte up down i size len) ∙ all_at count (byte_inside size len byte up down) e i h in
    record { above = leb-true _ _ (both_left _ _ f); below = rw (byte_natural byte up down i) (leb-true _ _ (both_right _ _ f)) }

-- elements of a matrix are elements of a register
pub elements_fit : (t : MatrixType) (first count : ℕ) → SizedType t → elements_ok t first count ≡ true → first + count ≤ matrix_places
elements_fit t first count s e = omega (arith, sized_places t s, leb-true (first + count) (t.rows * t.columns) e)

-- a take or a put, and a fill, that is in range, by its parts
module _ (t : MatrixType) (first count : ℕ) where
  pub bytes_filled : (len byte up down : ℕ) → bytes_record_ok t len first count byte up down ≡ true → is_empty t ≡ false
  unfolding bytes_record_ok
  bytes_filled len byte up down e = not-true _ (both_left _ _ e)

  pub bytes_elements : (len byte up down : ℕ) → bytes_record_ok t len first count byte up down ≡ true → elements_ok t first count ≡ true
  unfolding bytes_record_ok
  bytes_elements len byte up down e = both_left _ _ (both_right _ _ e)

  pub bytes_inside_lem : (len byte up down : ℕ) → bytes_record_ok t len first count byte up down ≡ true → bytes_inside (bytes_of t.kind) len count byte up down ≡ true
  unfolding bytes_record_ok
  bytes_inside_lem len byte up down e = both_right _ _ (both_right _ _ e)

  pub fill_filled : (value : ℕ) → fill_record_ok t first count value ≡ true → is_empty t ≡ false
  unfolding fill_record_ok
  fill_filled value e = not-true _ (both_left _ _ e)

  pub fill_elements : (value : ℕ) → fill_record_ok t first count value ≡ true → elements_ok t first count ≡ true
  unfolding fill_record_ok
  fill_elements value e = both_left _ _ (both_right _ _ e)

  pub fill_fits : (value : ℕ) → fill_record_ok t first count value ≡ true → value < 2 ^ width t.kind
  unfolding fill_record_ok fits
  fill_fits value e = ltb-true _ _ (both_right _ _ (both_right _ _ e))

-- the way of an element from a record's byte
pub stride_small : (i step : ℕ) → i < matrix_places → step ≤ 65535 → i * step ≤ matrix_places * 65536
stride_small i step h l = let k : i ≤ matrix_places = omega arith in mul-le-mul {n₂ = matrix_places} {m₂ = 65536} k (omega arith)

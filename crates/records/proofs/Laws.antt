-- What the tests of a record tell of its numbers.
use Prim.Native.Nat.{ℕ, ◌<◌, ◌^◌}
use mathlib.Core.Path.{◌≡◌}
use mathlib.Core.Bool.{true}
use lib.IntN.{ℤ}
use Rattle.numbers.specs.Laws.Choice.{both_left, both_right}
use Rattle.sheet.specs.Sizes.{register_count}
use Rattle.signed.specs.Numbers.{rise, fall}
use Rattle.signed.specs.Laws.Numbers.{one_way, spans_rise, spans_fall, least_rise}
use Rattle.records.specs.Records.{register_in_range, step_in_range, count_in_range, copy_in_range, bytes_in_range, fill_in_range}
use Rattle.records.specs.Ranges.{Elements, Bytes}

module _ (a b c d e : ℤ) where
  pub copy_register : copy_in_range a b c d e ≡ true → register_in_range a ≡ true
  unfolding copy_in_range
  copy_register h = both_left _ _ h

  pub copy_object : copy_in_range a b c d e ≡ true → register_in_range b ≡ true
  unfolding copy_in_range
  copy_object h = both_left _ _ (both_right _ _ h)

  pub bytes_register : bytes_in_range a b c d e ≡ true → register_in_range a ≡ true
  unfolding bytes_in_range
  bytes_register h = both_left _ _ h

  pub bytes_count : bytes_in_range a b c d e ≡ true → count_in_range c ≡ true
  unfolding bytes_in_range
  bytes_count h = both_left _ _ (both_right _ _ (both_right _ _ h))

  pub bytes_step : bytes_in_range a b c d e ≡ true → step_in_range e ≡ true
  unfolding bytes_in_range
  bytes_step h = both_right _ _ (both_right _ _ (both_right _ _ (both_right _ _ h)))

  pub fill_register : fill_in_range a b c d e ≡ true → register_in_range a ≡ true
  unfolding fill_in_range
  fill_register h = both_left _ _ h

  pub fill_count : fill_in_range a b c d e ≡ true → count_in_range c ≡ true
  unfolding fill_in_range
  fill_count h = both_left _ _ (both_right _ _ (both_right _ _ h))

-- elements that were read
pub elements_read : (c : ℤ) → count_in_range c ≡ true → {r f n : ℕ} → r < register_count → f < 2 ^ 31 → n ≡ rise c → n < 2 ^ 31 → Elements r f n
elements_read c h p q e s = record { register = p; first = q; some = rw e (least_rise 1 c h); count = s }

-- a byte and a step that were read
pub bytes_read : (e : ℤ) → step_in_range e ≡ true → {b u d : ℕ} → b < 2 ^ 31 → u ≡ rise e → d ≡ fall e → Bytes b u d
bytes_read e h p q r =
    record {
      byte = p;
      up = rw q (spans_rise 65535 65535 e h);
      down = rw r (spans_fall 65535 65535 e h);
      way = rw (q, r) (one_way e);
    }

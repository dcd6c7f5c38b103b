-- What a rewritten sheet gives, by the way that reading it went.
use Prim.Native.Nat.{ℕ, ◌<◌, ◌≤◌}
use mathlib.Core.Path.{◌≡◌}
use mathlib.Core.List.{List}
use native.Mathlib.Omega.{arith}
use borrow.Author.Tests.{eq-eqb, ne_eqb}
use Rattle.numbers.specs.Choice.{pick}
use Rattle.sheet_reader.specs.Reading.{read_sheet}
use Rattle.sheet_writer.specs.Writing.{written, written_room}
use Rattle.moonbleat.specs.Rewriting.{rewritten, rewritten_room}

module _ (s : List ℕ) where
  pub rewritten_refused : (room : ℕ) → 0 < (read_sheet s).refusal.number → rewritten s room ≡ record { refusal = (read_sheet s).refusal; bytes = 0 }
  unfolding rewritten pick
  rewritten_refused room h = rw (ne_eqb (read_sheet s).refusal.number 0 (λ e. omega arith))

  pub room_refused : (out : List ℕ) → 0 < (read_sheet s).refusal.number → rewritten_room s out ≡ out
  unfolding rewritten_room pick
  room_refused out h = rw (ne_eqb (read_sheet s).refusal.number 0 (λ e. omega arith))

  pub rewritten_read : (room : ℕ) → (read_sheet s).refusal.number ≤ 0 → rewritten s room ≡ written (read_sheet s).sheet room
  unfolding rewritten pick
  rewritten_read room h = rw (eq-eqb (read_sheet s).refusal.number 0 (omega arith))

  pub room_read : (out : List ℕ) → (read_sheet s).refusal.number ≤ 0 → rewritten_room s out ≡ written_room (read_sheet s).sheet out
  unfolding rewritten_room pick
  room_read out h = rw (eq-eqb (read_sheet s).refusal.number 0 (omega arith))

-- Elements fit: a record in range leaves elements that fit, and memory of bytes.
use Rattle.std.specs.Prelude.{ℕ, ◌+◌, ◌*◌, ◌<◌, ◌≤◌, ◌≡◌, true, false, List, length}
use Rattle.std.proofs.Common.{arith, leb-true}
use Rattle.std.proofs.lemmas.Bool.{not-true}
use Rattle.numbers.specs.Laws.Orders.{in_order_keeps}
use Rattle.kinds.specs.Widths.{bytes_of}
use Rattle.sheet.specs.Sizes.{register_count}
use Rattle.sheet_ranges.specs.Laws.Within.{Within}
use Rattle.sheet.specs.declared.Sheet.{Sheet}
use Rattle.registers.specs.Types.{the_type, is_empty}
use Rattle.registers.specs.Laws.Types.{filled_given}
use Rattle.registers.specs.declared.MatrixType.{MatrixType}
use Rattle.transfers.proofs.Laws.Fits.{Fits, gave_fits, took_fits, put_fits}
use Rattle.carrying.specs.Steps.{Machine, state_of, performed_step}
use Rattle.carrying.specs.Machines.{Formed}
use Rattle.carrying.specs.Laws.Fits.{FitMachine, copied_fits, whole_step_fits}
use Rattle.records.specs.declared.Record.{Record}
use Rattle.records.specs.declared.Record.TheVariants.{Copy, Take, Put, Fill, Whole}
use Rattle.records.specs.declared.Decoded.{Decoded}
use Rattle.records.specs.declared.Decoded.TheVariants.{Good, Bad}
use Rattle.judging.specs.Records.{byte_at, elements_ok, record_ok}
use Rattle.judging.specs.Judging.{decoded_ok}
use Rattle.judging.specs.Laws.Elements.{bytes_filled, bytes_elements, fill_filled, fill_elements, fill_fits}
use Rattle.judging.specs.Laws.Records.{whole_named, whole_within}
use Rattle.running.specs.Records.{ran_record_with, ran_record}
use Rattle.running.specs.Running.{ran_decoded}

module _ (sh : Sheet) (m : Machine) (w : Formed m) (f : FitMachine m) where
  abbrev ts : List MatrixType
  ts = m.registers.types

  abbrev len : ℕ
  len = length m.memory

  -- a register that is not empty is one of the four
  given : (register : ℕ) → is_empty (the_type ts register) ≡ false → register < register_count
  given register e = rw w.registers at (filled_given ts register e)

  -- element i of those that a record works on is one of the matrix
  inside : (register first count i : ℕ) → elements_ok (the_type ts register) first count ≡ true → i < count
      → first + i < (the_type ts register).rows * (the_type ts register).columns
  inside register first count i e l =
      let n : first + count ≤ (the_type ts register).rows * (the_type ts register).columns = leb-true _ _ e in
      omega arith

  record_fits : Within sh → (r : Record) → record_ok sh ts len r ≡ true → FitMachine (ran_record sh r m)
  unfolding ran_record_with performed_step
  record_fits v (Copy register object) e = copied_fits m w f register object (given object (not-true _ e))
  record_fits v (Take register first count byte up down) e =
      let g = given register (bytes_filled _ first count len byte up down e) in
      let n = bytes_elements _ first count len byte up down e in
      in_order_keeps (Fits ts) _ count
      (λ i l s q. took_fits ts w.sized register (first + i) g (inside register first count i n l) s q (byte_at byte up down i)) (state_of m) f
  record_fits v (Put register first count byte up down) e =
      let size = bytes_of (the_type ts register).kind in
      in_order_keeps (Fits ts) _ count (λ i l s q. put_fits ts size register (first + i) (byte_at byte up down i) s q) (state_of m) f
  record_fits v (Fill register first count value) e =
      let g = given register (fill_filled _ first count value e) in
      let n = fill_elements _ first count value e in
      in_order_keeps (Fits ts) _ count
      (λ i l s q. gave_fits ts w.sized register (first + i) g (inside register first count i n l) s q value (fill_fits _ first count value e)) (state_of m) f
  record_fits v (Whole k) e =
      let n = whole_named sh ts len k e in
      rw n.is (whole_step_fits m w f sh.edition n.whole (whole_within sh v ts len k n) n.clear)

  -- the same of six numbers
  pub decoded_fits : Within sh → (d : Decoded) → decoded_ok sh ts len d ≡ true → FitMachine (ran_decoded sh d m)
  decoded_fits v (Good r) e = record_fits v r e
  decoded_fits v Bad e = f

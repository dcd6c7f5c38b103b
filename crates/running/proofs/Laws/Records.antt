-- What a record in range keeps.
use Rattle.std.specs.Prelude.{ℕ, ◌+◌, ◌*◌, ◌<◌, ◌≤◌, ◌≡◌, true, List}
use Rattle.std.proofs.Math.Path.{refl}
use Rattle.std.proofs.Common.{ap, ◌∙◌, leb-true}
use native.Mathlib.Omega.{arith}
use Rattle.std.proofs.lemmas.Bool.{not-true}
use Rattle.std.proofs.Math.ListN.{length, length-set}
use Rattle.registers.specs.declared.MatrixType.{MatrixType}
use Rattle.numbers.specs.Laws.Lists.{length_line}
use Rattle.kinds.specs.Widths.{bytes_of}
use Rattle.sheet_ranges.specs.Steps.{the_step}
use Rattle.sheet.specs.declared.Sheet.{Sheet}
use Rattle.sheet.specs.declared.Step.{Step}
use Rattle.sheet_ranges.specs.Laws.Within.{Within}
use Rattle.memory.proofs.Laws.Elements.{length_with}
use Rattle.registers.specs.Types.{the_type}
use Rattle.sheet.specs.Sizes.{matrix_places}
use Rattle.registers.specs.Registers.{place_of, element_of}
use Rattle.registers.specs.Sized.{Sized}
use Rattle.registers.specs.Past.{Past}
use Rattle.registers.specs.Laws.Types.{filled_given}
use Rattle.registers.specs.Laws.Past.{past_put, past_copied}
use Rattle.numbers.specs.Laws.Orders.{in_order_keeps}
use Rattle.transfers.specs.Acts.{State}
use Rattle.carrying.specs.Steps.{Machine, performed_step, state_of}
use Rattle.carrying.specs.Machines.{Formed}
use Rattle.carrying.specs.Laws.Types.{step_places_lem, whole_past}
use Rattle.records.specs.declared.Record.{Record}
use Rattle.records.specs.declared.Record.TheVariants.{Copy, Take, Put, Fill, Whole}
use Rattle.records.specs.declared.Decoded.{Decoded}
use Rattle.records.specs.declared.Decoded.TheVariants.{Good, Bad}
use Rattle.judging.specs.Records.{record_ok, record_types, elements_ok}
use Rattle.judging.specs.Judging.{decoded_step, decoded_ok, decoded_types}
use Rattle.judging.specs.Laws.Elements.{elements_fit, bytes_elements, fill_elements}
use Rattle.judging.specs.Laws.Named.{step_is}
use Rattle.judging.specs.Laws.Records.{whole_named, whole_within, record_sized, record_registers}
use Rattle.moves.specs.Elements.{taking, putting, filling}
use Rattle.moves.specs.Laws.Elements.{order_keeps, order_counts}
use Rattle.running.specs.Records.{ran_record_with, ran_record}
use Rattle.running.specs.Running.{ran_decoded_with, ran_decoded}

module _ (sh : Sheet) where
  pub record_types_lem : (r : Record) (m : Machine) (len : ℕ) → record_ok sh m.registers.types len r ≡ true
      → (ran_record sh r m).registers.types ≡ record_types sh m.registers.types r
  unfolding ran_record_with performed_step
  record_types_lem (Copy register object) m len e = refl
  record_types_lem (Take register first count byte up down) m len e = refl
  record_types_lem (Put register first count byte up down) m len e = refl
  record_types_lem (Fill register first count value) m len e = refl
  record_types_lem (Whole k) m len e = rw (whole_named sh m.registers.types len k e).is

-- a record in range on a machine
module _ (sh : Sheet) (m : Machine) (len : ℕ) where
  record_length_lem : (r : Record) → record_ok sh m.registers.types len r ≡ true → length (ran_record sh r m).memory ≡ length m.memory
  unfolding ran_record_with performed_step
  record_length_lem (Copy register object) e = refl
  record_length_lem (Take register first count byte up down) e =
      order_keeps _ (λ (s : State). length s.memory) (λ i s. refl) count (state_of m)
  record_length_lem (Put register first count byte up down) e =
      order_keeps _ (λ (s : State). length s.memory) (λ i s. length_with s.memory _ _ _) count (state_of m)
  record_length_lem (Fill register first count value) e =
      order_keeps _ (λ (s : State). length s.memory) (λ i s. refl) count (state_of m)
  record_length_lem (Whole k) e = rw (whole_named sh m.registers.types len k e).is

  record_places_lem : (r : Record) → length (ran_record sh r m).registers.elements ≡ length m.registers.elements
  unfolding ran_record_with
  record_places_lem (Copy register object) = length_line m.registers.elements (place_of register 0) (element_of m.registers.elements object) matrix_places
  record_places_lem (Take register first count byte up down) =
      order_keeps _ (λ (s : State). length s.elements) (λ i s. length-set s.elements _ _) count (state_of m)
  record_places_lem (Put register first count byte up down) =
      order_keeps _ (λ (s : State). length s.elements) (λ i s. refl) count (state_of m)
  record_places_lem (Fill register first count value) =
      order_keeps _ (λ (s : State). length s.elements) (λ i s. length-set s.elements _ _) count (state_of m)
  record_places_lem (Whole k) = step_places_lem sh.tensors (the_step sh.step k) m

  few : (register first count : ℕ) → Sized m.registers.types → elements_ok (the_type m.registers.types register) first count ≡ true → count ≤ matrix_places
  few register first count s e = omega (arith, elements_fit _ first count (s.each register) e)

  record_count : (r : Record) → record_ok sh m.registers.types len r ≡ true → Sized m.registers.types → (ran_record sh r m).counts.placed ≤ m.counts.placed + matrix_places
  unfolding ran_record_with performed_step
  record_count (Copy register object) e s = omega arith
  record_count (Take register first count byte up down) e s =
      let f = few register first count s (bytes_elements _ first count len byte up down e) in
      let n = order_counts (taking (bytes_of (the_type m.registers.types register).kind) register first byte up down) (λ i s. omega arith) count (state_of m) in
      omega (arith, f, n)
  record_count (Put register first count byte up down) e s =
      let f = few register first count s (bytes_elements _ first count len byte up down e) in
      let n = order_counts (putting (bytes_of (the_type m.registers.types register).kind) register first byte up down) (λ i s. omega arith) count (state_of m) in
      omega (arith, f, n)
  record_count (Fill register first count value) e s =
      let f = few register first count s (fill_elements _ first count value e) in
      let n = order_counts (filling register first value) (λ i s. omega arith) count (state_of m) in
      omega (arith, f, n)
  record_count (Whole k) e s = rw (whole_named sh m.registers.types len k e).is (omega arith)

  -- an element of the matrix that a record works on
  element_inside : (register first count i : ℕ) → elements_ok (the_type m.registers.types register) first count ≡ true → i < count
      → first + i < (the_type m.registers.types register).rows * (the_type m.registers.types register).columns
  element_inside register first count i e l =
      let n : first + count ≤ (the_type m.registers.types register).rows * (the_type m.registers.types register).columns = leb-true _ _ e in
      omega arith

  -- a record leaves 0 past each matrix
  record_past : Within sh → (r : Record) → record_ok sh m.registers.types len r ≡ true → Formed m
      → Past (ran_record sh r m).registers.types (ran_record sh r m).registers.elements
  unfolding ran_record_with performed_step
  record_past v (Copy register object) e f =
      past_copied m.registers.types m.registers.elements f.registers f.places f.past register object
      (rw f.registers at (filled_given m.registers.types object (not-true _ e)))
  record_past v (Take register first count byte up down) e f =
      let n = bytes_elements _ first count len byte up down e in
      in_order_keeps (λ (s : State). Past m.registers.types s.elements) _ count
      (λ i l s q. past_put m.registers.types s.elements register (first + i) _ f.sized (element_inside register first count i n l) q) (state_of m) f.past
  record_past v (Put register first count byte up down) e f =
      in_order_keeps (λ (s : State). Past m.registers.types s.elements) _ count (λ i l s q. q) (state_of m) f.past
  record_past v (Fill register first count value) e f =
      let n = fill_elements _ first count value e in
      in_order_keeps (λ (s : State). Past m.registers.types s.elements) _ count
      (λ i l s q. past_put m.registers.types s.elements register (first + i) value f.sized (element_inside register first count i n l) q) (state_of m) f.past
  record_past v (Whole k) e f =
      let n = whole_named sh m.registers.types len k e in
      rw n.is (whole_past n.whole m (whole_within sh v m.registers.types len k n) f)

  record_formed : Within sh → (r : Record) → record_ok sh m.registers.types len r ≡ true → Formed m → Formed (ran_record sh r m)
  record_formed w r e f =
      let types = record_types_lem sh r m len e in
      record {
        registers = ap length types ∙ record_registers sh m.registers.types len r e ∙ f.registers;
        sized = rw types (record_sized sh w m.registers.types len r e f.sized);
        places = record_places_lem r ∙ f.places;
        past = record_past w r e f;
      }

  -- the same of six numbers
  pub decoded_types_lem : (d : Decoded) → decoded_ok sh m.registers.types len d ≡ true → (ran_decoded sh d m).registers.types ≡ decoded_types sh m.registers.types d
  decoded_types_lem (Good r) e = record_types_lem sh r m len e
  decoded_types_lem Bad e = refl

  pub decoded_length : (d : Decoded) → decoded_ok sh m.registers.types len d ≡ true → length (ran_decoded sh d m).memory ≡ length m.memory
  decoded_length (Good r) e = record_length_lem r e
  decoded_length Bad e = refl

  pub decoded_count : (d : Decoded) → decoded_ok sh m.registers.types len d ≡ true → Sized m.registers.types → (ran_decoded sh d m).counts.placed ≤ m.counts.placed + matrix_places
  decoded_count (Good r) e s = record_count r e s
  decoded_count Bad e s = omega arith

  pub decoded_formed : Within sh → (d : Decoded) → decoded_ok sh m.registers.types len d ≡ true → Formed m → Formed (ran_decoded sh d m)
  decoded_formed w (Good r) e f = record_formed w r e f
  decoded_formed w Bad e f = f

-- with the step that it names a record in range does what it does with the sheet
pub named_ran : (sh : Sheet) (ts : List MatrixType) (len : ℕ) (d : Decoded) {named : Step} → named ≡ decoded_step sh d → decoded_ok sh ts len d ≡ true
    → (m : Machine) → ran_decoded_with sh.tensors named d m ≡ ran_decoded sh d m
unfolding ran_record_with
named_ran sh ts len (Good (Copy register object)) so e m = refl
named_ran sh ts len (Good (Take register first count byte up down)) so e m = refl
named_ran sh ts len (Good (Put register first count byte up down)) so e m = refl
named_ran sh ts len (Good (Fill register first count value)) so e m = refl
named_ran sh ts len (Good (Whole k)) so e m = ap (λ (x : Step). performed_step sh.tensors x m) (so ∙ step_is sh k (whole_named sh ts len k e).given)
named_ran sh ts len Bad so e m = refl

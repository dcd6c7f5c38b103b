-- A byte outside the puts of a tape is unchanged by running it, and the elements that running leaves fit.
use Prim.Native.Nat.{ℕ, zero, suc, ◌+◌}
use Rattle.std.specs.Prelude.{◌≡◌, true, eqb, leb, ℤ}
use Rattle.std.proofs.Math.Path.{refl}
use Rattle.std.proofs.Common.{◌∙◌, arith}
use mathlib.Core.List.{List}
use borrow.Author.Tests.{eqb-true, eqb-false}
use Rattle.std.proofs.Math.ListN.{length, get_or}
use Rattle.numbers.specs.Laws.Orders.{in_order_keeps}
use Rattle.numbers.specs.Laws.Choice.{pick_case}
use Rattle.numbers.specs.Bytes.{AreBytes}
use Rattle.kinds.specs.Widths.{bytes_of}
use Rattle.sheet.specs.Sizes.{memory_limit}
use Rattle.sheet_ranges.specs.Laws.Within.{Within}
use Rattle.sheet.specs.declared.Sheet.{Sheet}
use Rattle.refusals.specs.declared.Refusal.{Refusal}
use Rattle.memory.proofs.Laws.Elements.{with_outside}
use Rattle.registers.specs.Types.{the_type}
use Rattle.registers.specs.Registers.{empty_registers, element_of}
use Rattle.registers.specs.Fits.{Fit}
use Rattle.registers.specs.Laws.Fits.{fit_empty}
use Rattle.registers.specs.declared.MatrixType.{MatrixType}
use Rattle.transfers.specs.Acts.{State}
use Rattle.carrying.specs.Steps.{Machine, state_of, performed_step}
use Rattle.carrying.specs.Carrying.{started}
use Rattle.carrying.specs.Machines.{Formed}
use Rattle.carrying.specs.Laws.Types.{started_formed}
use Rattle.carrying.specs.Laws.Fits.{FitMachine, started_fits}
use Rattle.carrying.specs.Carrying.{CarriedOut}
use Rattle.records.specs.declared.Record.TheVariants.{Copy, Take, Put, Fill, Whole}
use Rattle.records.specs.declared.Decoded.{Decoded}
use Rattle.records.specs.declared.Decoded.TheVariants.{Good, Bad}
use Rattle.judging.specs.Records.{byte_at}
use Rattle.sheet_reader.specs.Reading.{read_sheet}
use Rattle.sheet_reader.specs.Laws.Growing.{read_within}
use Rattle.judging.specs.Judging.{tape_record, decoded_ok, decoded_types, range_from, range_refusal}
use Rattle.judging.specs.Laws.Turns.{tape_clear}
use Rattle.judging.specs.Laws.Records.{whole_named}
use Rattle.running.specs.Records.{ran_record_with}
use Rattle.running.specs.Running.{ran_decoded, ran_from, ran, run_refusal, run_tape, ran_memory}
use Rattle.running.proofs.Laws.Records.{decoded_types_lem, decoded_length, decoded_formed}
use Rattle.running.proofs.Laws.Fits.{decoded_fits}
use Rattle.running.specs.Outside.{OutsideRecord, OutsideFrom}

module _ (sh : Sheet) (len p : ℕ) where
  abbrev Kept : Machine → Machine → Type 0
  Kept before after = get_or after.memory p 0 ≡ get_or before.memory p 0

  record_kept : (d : Decoded) (m : Machine) → decoded_ok sh m.registers.types len d ≡ true → OutsideRecord m.registers.types p d → Kept m (ran_decoded sh d m)
  unfolding ran_record_with performed_step
  record_kept (Good (Copy register object)) m e o = refl
  record_kept (Good (Take register first count byte up down)) m e o =
      in_order_keeps (λ (s : State). get_or s.memory p 0 ≡ get_or m.memory p 0) _ count (λ i l s q. q) (state_of m) refl
  record_kept (Good (Put register first count byte up down)) m e o =
      let size = bytes_of (the_type m.registers.types register).kind in
      in_order_keeps (λ (s : State). get_or s.memory p 0 ≡ get_or m.memory p 0) _ count
      (λ i l s q. with_outside s.memory (byte_at byte up down i) size (element_of s.elements register (first + i)) p (λ j h. o i j l h) ∙ q)
      (state_of m) refl
  record_kept (Good (Fill register first count value)) m e o =
      in_order_keeps (λ (s : State). get_or s.memory p 0 ≡ get_or m.memory p 0) _ count (λ i l s q. q) (state_of m) refl
  record_kept (Good (Whole k)) m e o = rw (whole_named sh m.registers.types len k e).is
  record_kept Bad m e o = refl

  -- where n records are not out of range, the first is not, nor are the others
  record Ranged (n : ℕ) (the : ℕ → Decoded) (k : ℕ) (ts : List MatrixType) : Type 0 where
    first : decoded_ok sh ts len (the k) ≡ true
    others : (range_from n sh len the (k + 1) (decoded_types sh ts (the k))).number ≡ 0

  ranged : (n : ℕ) (the : ℕ → Decoded) (k : ℕ) (ts : List MatrixType) → (range_from (suc n) sh len the k ts).number ≡ 0 → Ranged n the k ts
  unfolding range_from
  ranged n the k ts =
      pick_case (λ (r : Refusal). r.number ≡ 0 → Ranged n the k ts) (decoded_ok sh ts len (the k)) _ _
      (λ e h. record { first = e; others = h }) (λ e h. absurd (omega arith))

  from_kept : (n : ℕ) (the : ℕ → Decoded) (k : ℕ) (m : Machine) → (range_from n sh len the k m.registers.types).number ≡ 0
      → OutsideFrom n sh the k m.registers.types p → Kept m (ran_from n sh the k m)
  unfolding ran_from OutsideFrom
  from_kept zero the k m h o = refl
  from_kept (suc n) the k m h o =
      let r = ranged n the k m.registers.types h in
      let types = decoded_types_lem sh m len (the k) r.first in
      from_kept n the (k + 1) (ran_decoded sh (the k) m) (rw types r.others) (rw types o.1)
      ∙ record_kept (the k) m r.first o.0

  -- A byte outside the puts of a tape that is not refused is unchanged by running it.
  pub outside_kept : (n : ℕ) (the : ℕ → Decoded) (memory : List ℕ) → (range_refusal n sh len the).number ≡ 0
      → OutsideFrom n sh the 0 empty_registers.types p → get_or (ran n sh the (started memory)).memory p 0 ≡ get_or memory p 0
  outside_kept n the memory h o = from_kept n the 0 (started memory) h o

  from_length : (n : ℕ) (the : ℕ → Decoded) (k : ℕ) (m : Machine) → (range_from n sh len the k m.registers.types).number ≡ 0
      → length (ran_from n sh the k m).memory ≡ length m.memory
  unfolding ran_from
  from_length zero the k m h = refl
  from_length (suc n) the k m h =
      let r = ranged n the k m.registers.types h in
      from_length n the (k + 1) (ran_decoded sh (the k) m) (rw (decoded_types_lem sh m len (the k) r.first) r.others)
      ∙ decoded_length sh m len (the k) r.first

-- Records in range leave elements that fit, one after the other.
module _ (sh : Sheet) (w : Within sh) where
  from_fits : (n : ℕ) (the : ℕ → Decoded) (k : ℕ) (m : Machine) → (range_from n sh (length m.memory) the k m.registers.types).number ≡ 0
      → Formed m → FitMachine m → FitMachine (ran_from n sh the k m)
  unfolding ran_from
  from_fits zero the k m h f g = g
  from_fits (suc n) the k m h f g =
      let len = length m.memory in
      let r = ranged sh len 0 n the k m.registers.types h in
      from_fits n the (k + 1) (ran_decoded sh (the k) m)
      (rw (decoded_length sh m len (the k) r.first, decoded_types_lem sh m len (the k) r.first) r.others)
      (decoded_formed sh m len w (the k) r.first f)
      (decoded_fits sh m f g w (the k) r.first)

-- The same of the memory that running leaves, refused or not; and it is as long as before.
module _ (s : List ℕ) (tape : List ℤ) (records : ℕ) (memory : List ℕ) where
  abbrev sh : Sheet
  sh = (read_sheet s).sheet

  -- a tape that is not refused is in range
  in_range : (run_refusal s tape records (length memory)).number ≡ 0 → (range_refusal records sh (length memory) (tape_record tape)).number ≡ 0
  unfolding run_refusal
  in_range =
      pick_case P (leb (length memory) memory_limit) _ _
      (λ l. pick_case P (eqb (read_sheet s).refusal.number 0) _ _ (λ e h. tape_clear sh tape records (length memory) h)
      (λ e h. absurd (eqb-false (read_sheet s).refusal.number 0 e h)))
      (λ l h. absurd (omega arith))
    where
      P : Refusal → Type 0
      P r = r.number ≡ 0 → (range_refusal records sh (length memory) (tape_record tape)).number ≡ 0

  -- and its sheet was read
  was_read : (run_refusal s tape records (length memory)).number ≡ 0 → (read_sheet s).refusal.number ≡ 0
  unfolding run_refusal
  was_read =
      pick_case P (leb (length memory) memory_limit) _ _
      (λ l. pick_case P (eqb (read_sheet s).refusal.number 0) _ _ (λ e h. eqb-true _ 0 e) (λ e h. h)) (λ l h. absurd (omega arith))
    where
      P : Refusal → Type 0
      P r = r.number ≡ 0 → (read_sheet s).refusal.number ≡ 0

  pub ran_untouched : (p : ℕ) → OutsideFrom records sh (tape_record tape) 0 empty_registers.types p → get_or (ran_memory s tape records memory) p 0 ≡ get_or memory p 0
  unfolding ran_memory
  ran_untouched p o =
      pick_case (λ (l : List ℕ). get_or l p 0 ≡ get_or memory p 0) (eqb (run_refusal s tape records (length memory)).number 0) _ _
      (λ e. outside_kept sh (length memory) p records (tape_record tape) memory (in_range (eqb-true _ 0 e)) o) (λ e. refl)

  pub ran_length : length (ran_memory s tape records memory) ≡ length memory
  unfolding ran_memory
  ran_length =
      pick_case (λ (l : List ℕ). length l ≡ length memory) (eqb (run_refusal s tape records (length memory)).number 0) _ _
      (λ e. from_length sh (length memory) 0 records (tape_record tape) 0 (started memory) (in_range (eqb-true _ 0 e))) (λ e. refl)

  -- what a tape that is not refused leaves
  accepted_fits : AreBytes memory → (run_refusal s tape records (length memory)).number ≡ 0 → FitMachine (ran records sh (tape_record tape) (started memory))
  accepted_fits b e =
      from_fits sh (read_within s (was_read e)) records (tape_record tape) 0 (started memory) (in_range e) (started_formed memory) (started_fits memory b)

  -- The elements of the registers that running gives fit, refused or not: each is below 2 to its kind's width, and the places past a matrix are 0.
  pub ran_fits : AreBytes memory → Fit (run_tape s tape records memory).registers.types (run_tape s tape records memory).registers.elements
  unfolding run_tape
  ran_fits b =
      pick_case (λ (r : CarriedOut). Fit r.registers.types r.registers.elements) (eqb (run_refusal s tape records (length memory)).number 0) _ _
      (λ e. (accepted_fits b (eqb-true _ 0 e)).fit) (λ e. fit_empty)

  -- Memory of bytes stays so.
  pub ran_bytes : AreBytes memory → AreBytes (ran_memory s tape records memory)
  unfolding ran_memory
  ran_bytes b =
      pick_case AreBytes (eqb (run_refusal s tape records (length memory)).number 0) _ _ (λ e. (accepted_fits b (eqb-true _ 0 e)).bytes) (λ e. b)

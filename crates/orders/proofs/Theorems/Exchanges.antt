-- Two stores next to each other may be exchanged, if no byte that one writes is written by the other.
use Prim.Native.Nat.{ℕ, ◌+◌, ◌-◌, ◌<◌}
use Rattle.std.specs.Prelude.{◌≡◌, ◌↔◌, leb, length}
use Rattle.std.proofs.Math.Path.{refl, ap}
use Rattle.std.proofs.Common.{◌∙◌, zero-add, arith}
use mathlib.Core.List.{List, ◌++◌}
use borrow.Author.Tests.{ne_eqb}
use Rattle.numbers.specs.Choice.{pick}
use Rattle.numbers.specs.Laws.Choice.{by_test, by_place}
use Rattle.numbers.specs.Bytes.{AreBytes}
use Rattle.sheet.specs.Sizes.{memory_limit}
use Rattle.sheet.specs.declared.Cell.{Cell}
use Rattle.sheet.specs.declared.Sheet.{Sheet}
use Rattle.sheet_ranges.specs.Steps.{the_step}
use Rattle.sheet_ranges.specs.Sheets.{empty_sheet}
use Rattle.sheet_reader.specs.Reading.{refused_read, accepted_read, read_sheet}
use Rattle.sheet_reader.specs.Laws.Growing.{not_refused_lem, refused, read_within}
use Rattle.sheet_reader.specs.declared.ReadAnswer.{ReadAnswer}
use Rattle.sheet_bytes.specs.Bytes.{edition_field}
use Rattle.step_bytes.specs.Bytes.{step_field}
use Rattle.sheet_writer.specs.Bytes.{layouts_bytes, views_bytes, sheet_bytes}
use Rattle.round_trip.proofs.Theorems.{read_writes_back}
use Rattle.checking.specs.Checking.{checked, checked_sheet}
use Rattle.carrying.specs.Steps.{Machine, performed_step}
use Rattle.carrying.specs.Carrying.{performed_from, performed, started, carried, carried_memory}
use Rattle.orders.specs.Exchanges.{TwoStores, Apart, exchanged_steps, exchanged, exchanged_sheet, Exchanged}
use Rattle.orders.proofs.Laws.Stores.{ApartOn}
use Rattle.orders.proofs.Laws.Swaps.{Swap, swap_back, exchange_swaps, from_checks, from_performs, from_last}
use Rattle.orders.proofs.Laws.Fields.{each_exchanged}
use Rattle.orders.proofs.Laws.Reading.{reads_exchanged, read_checked}

-- In a model:
module _ (sh : Sheet) (k : ℕ) (t : TwoStores sh k) where
  swap : Swap k sh.step (exchanged_steps k sh.step)
  swap = exchange_swaps k sh t

  -- the fields of the two steps are exchanged in its bytes
  model_fields : Exchanged (sheet_bytes sh) (sheet_bytes (exchanged k sh)) (step_field sh.edition (the_step sh.step k)) (step_field sh.edition (the_step sh.step (k + 1)))
  unfolding sheet_bytes
  model_fields =
      let ts = sh.tensors in
      let head = edition_field sh.edition ++ layouts_bytes ts.layouts ts.layout ++ views_bytes ts.views ts.view in
      let field : List Cell → ℕ → List ℕ = λ cells i. step_field sh.edition (the_step cells i) in
      let n : sh.steps ≡ k + 1 + 1 + (sh.steps - (k + 1 + 1)) = omega (arith, t.given) in
      rw n
      (each_exchanged k (sh.steps - (k + 1 + 1)) (field sh.step) (field (exchanged_steps k sh.step))
      (ap (step_field sh.edition) swap.first) (ap (step_field sh.edition) swap.second)
      (λ i d e. ap (step_field sh.edition) (swap.others i d e)) head)

  -- exchanged, it is accepted for the same lengths of memory and no others, with the same count
  model_checked : (len : ℕ) → (checked sh len).refusal.number ≡ 0 → checked (exchanged k sh) len ≡ checked sh len
  unfolding checked
  model_checked len = from_checks k sh (exchanged_steps k sh.step) swap k sh.steps 0 len _ 0 (omega arith) t.given

  model_accepted : (len : ℕ) → ((checked sh len).refusal.number ≡ 0) ↔ ((checked (exchanged k sh) len).refusal.number ≡ 0)
  unfolding checked
  model_accepted len = (
    λ h. rw (model_checked len h) h,
    λ h. rw (from_checks k (exchanged k sh) sh.step (swap_back swap) k sh.steps 0 len _ 0 (omega arith) t.given h) h,
  )

  -- and the steps leave the same, however many of them are performed after the two
  model_performed : (m : Machine) → Apart sh k m → (n : ℕ) → k + 1 < n → performed_from n (exchanged k sh) 0 m ≡ performed_from n sh 0 m
  model_performed m apart n l =
      let after : performed_from (k + 1) sh 0 m ≡ performed_step sh.tensors (the_step sh.step k) (performed_from k sh 0 m) =
      from_last k sh 0 m ∙ rw (zero-add k) refl in
      let on : ApartOn sh.tensors (the_step sh.step k) (the_step sh.step (k + 1)) (performed_from k sh 0 m) =
      λ b x y. apart b x (rw (← after) at y) in
      from_performs k sh (exchanged_steps k sh.step) swap k n 0 m (omega arith) l on

-- In a sheet as bytes:
module _ (s : List ℕ) (b : AreBytes s) (k : ℕ) (t : TwoStores (read_sheet s).sheet k) where
  abbrev sh : Sheet
  sh = (read_sheet s).sheet

  -- a sheet with two steps is read
  is_read : read_sheet s ≡ accepted_read (read_sheet s).sheet
  unfolding refused_read empty_sheet
  is_read =
      by_place (read_sheet s).refusal.number 0 (not_refused_lem s)
      (λ d.
      let e : sh ≡ empty_sheet = ap (λ (r : ReadAnswer). r.sheet) (refused s (omega arith)) in
      let z : sh.steps ≡ 0 = ap (λ (x : Sheet). x.steps) e in
      absurd (omega (arith, t.given)))

  -- The exchanged sheet's bytes read as the sheet with the two steps exchanged.
  pub exchanged_reads : read_sheet (exchanged_sheet k s) ≡ accepted_read (exchanged k (read_sheet s).sheet)
  unfolding accepted_read
  exchanged_reads =
      let read : (read_sheet s).refusal.number ≡ 0 = ap (λ (r : ReadAnswer). r.refusal.number) is_read in
      reads_exchanged k sh t.given (read_within s read) (read_writes_back s sh b is_read).typed

  -- Of the sheet's bytes, the fields of the two steps are exchanged, and nothing else is.
  pub exchanged_fields : Exchanged s (exchanged_sheet k s) (step_field sh.edition (the_step sh.step k)) (step_field sh.edition (the_step sh.step (k + 1)))
  exchanged_fields = rw (read_writes_back s sh b is_read).same at (model_fields sh k t)

  -- It is accepted for the same lengths of memory and no others, with the same count.
  pub exchanged_checked : (len : ℕ) → (checked_sheet s len).refusal.number ≡ 0 → checked_sheet (exchanged_sheet k s) len ≡ checked_sheet s len
  unfolding pick
  exchanged_checked len =
      rw (read_checked s sh len is_read, read_checked (exchanged_sheet k s) (exchanged k sh) len exchanged_reads)
      (by_test (leb len memory_limit) (λ e. rw e (model_checked sh k t len)) (λ e. rw e (λ h. refl)))

  pub exchanged_accepted : (len : ℕ) → ((checked_sheet s len).refusal.number ≡ 0) ↔ ((checked_sheet (exchanged_sheet k s) len).refusal.number ≡ 0)
  unfolding pick
  exchanged_accepted len =
      rw (read_checked s sh len is_read, read_checked (exchanged_sheet k s) (exchanged k sh) len exchanged_reads)
      (by_test (leb len memory_limit) (λ e. rw e (model_accepted sh k t len)) (λ e. rw e (λ h. h, λ h. h)))

  -- If no byte that one of the two writes is written by the other:
  module _ (memory : List ℕ) (apart : Apart (read_sheet s).sheet k (started memory)) where
    -- after n steps, the two among them, the machine is the same: every later step starts from it;
    pub exchanged_machine : (n : ℕ) → k + 1 < n → performed_from n (read_sheet (exchanged_sheet k s)).sheet 0 (started memory) ≡ performed_from n sh 0 (started memory)
    unfolding accepted_read
    exchanged_machine n l =
        ap (λ (r : ReadAnswer). performed_from n r.sheet 0 (started memory)) exchanged_reads ∙ model_performed sh k t (started memory) apart n l

    performs_exchanged : performed (read_sheet (exchanged_sheet k s)).sheet (started memory) ≡ performed sh (started memory)
    unfolding performed accepted_read
    performs_exchanged =
        rw exchanged_reads (model_performed sh k t (started memory) apart sh.steps t.given)

    -- an accepted sheet leaves the same registers and the same count,
    pub exchanged_carried : (checked_sheet s (length memory)).refusal.number ≡ 0 → carried (exchanged_sheet k s) memory ≡ carried s memory
    unfolding carried
    exchanged_carried h = rw (exchanged_checked (length memory) h, performs_exchanged) refl

    -- and a sheet, accepted or refused, the same memory.
    pub exchanged_memory : carried_memory (exchanged_sheet k s) memory ≡ carried_memory s memory
    unfolding carried_memory pick
    exchanged_memory =
        by_place (checked_sheet s (length memory)).refusal.number 0 (λ h. rw (exchanged_checked (length memory) h, performs_exchanged) refl)
        (λ d.
        rw (
          ne_eqb (checked_sheet s (length memory)).refusal.number 0 d,
          ne_eqb (checked_sheet (exchanged_sheet k s) (length memory)).refusal.number 0 (λ h. d ((exchanged_accepted (length memory)).1 h)),
        ) refl)

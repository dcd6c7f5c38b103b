-- A sheet with two steps exchanged, as bytes: it reads as such.
use Rattle.std.specs.Prelude.{ℕ, ◌+◌, ◌<◌, ◌≡◌, refl, true, List, leb, length, get_or, set}
use Rattle.std.proofs.Common.{◌∙◌, arith, length-set}
use Rattle.numbers.specs.Choice.{pick}
use Rattle.numbers.specs.Laws.Places.{set_keeps}
use Rattle.refusals.specs.Refusals.{memory_too_large, refusal_at}
use Rattle.sheet.specs.Sizes.{memory_limit}
use Rattle.sheet.specs.declared.Cell.{Cell}
use Rattle.sheet.specs.declared.Sheet.{Sheet}
use Rattle.sheet_ranges.specs.Steps.{no_cell, step_ok}
use Rattle.sheet_ranges.specs.Laws.Within.{Within, within_places, within_writable}
use Rattle.sheet_reader.specs.Reading.{accepted_read, read_sheet}
use Rattle.sheet_writer.specs.Bytes.{sheet_bytes}
use Rattle.round_trip.specs.Typed.{StepFits, Typed}
use Rattle.round_trip.proofs.Theorems.{written_reads_back}
use Rattle.checking.specs.Checking.{check_refused, checked, checked_sheet}
use Rattle.orders.specs.Exchanges.{exchanged_steps, exchanged}
use Rattle.orders.proofs.Laws.Swaps.{elsewhere}

-- what holds of two places holds of them exchanged
exchanged_keeps : (P : Cell → Type 0) (k : ℕ) (cells : List Cell) → k + 1 < length cells → P (get_or cells k no_cell) → P (get_or cells (k + 1) no_cell)
    → (i : ℕ) → P (get_or cells i no_cell) → P (get_or (exchanged_steps k cells) i no_cell)
exchanged_keeps P k cells inside p q i h =
    let c = get_or cells (k + 1) no_cell in
    set_keeps P no_cell (set cells k c) (k + 1) (get_or cells k no_cell) (omega (arith, length-set cells k c)) p i
    (set_keeps P no_cell cells k c (omega arith) q i h)

-- an exchanged sheet keeps to Sizes and to the types of its numbers, so its bytes read as it
module _ (k : ℕ) (sh : Sheet) (given : k + 1 < sh.steps) (w : Within sh) (t : Typed sh) where
  inside : k + 1 < length sh.step
  inside = omega (arith, t.arrays.step, within_places w)

  exchanged_within : Within (exchanged k sh)
  exchanged_within =
      let ok : Cell → Type 0 = λ c. step_ok sh.edition sh.tensors.layouts sh.tensors.views c.step ≡ true in
      record {
        edition = w.edition;
        tensors = w.tensors;
        steps = w.steps;
        step =
            record {
              given =
                  λ i l.
                  exchanged_keeps ok k sh.step inside (w.step.given k (omega arith)) (w.step.given (k + 1) given) i (w.step.given i l);
              past = λ i l m. rw (elsewhere k sh.step _ _ i (λ e. omega arith) (λ e. omega arith)) (w.step.past i l m);
            };
      }

  exchanged_typed : Typed (exchanged k sh)
  exchanged_typed =
      let cells = sh.step in
      let c = get_or cells (k + 1) no_cell in
      record {
        arrays =
            record {
              layout = t.arrays.layout;
              view = t.arrays.view;
              step = length-set (set cells k c) (k + 1) (get_or cells k no_cell) ∙ length-set cells k c ∙ t.arrays.step;
              layouts = t.arrays.layouts;
              views = t.arrays.views;
            };
        fits =
            record {
              layouts = t.fits.layouts;
              views = t.fits.views;
              steps =
                  λ i.
                  exchanged_keeps (λ (c : Cell). StepFits c.step) k cells inside (t.fits.steps k) (t.fits.steps (k + 1)) i (t.fits.steps i);
            };
      }

  pub reads_exchanged : read_sheet (sheet_bytes (exchanged k sh)) ≡ accepted_read (exchanged k sh)
  reads_exchanged = written_reads_back (exchanged k sh) exchanged_typed (within_writable (exchanged k sh) exchanged_within)

-- the check of a sheet that is read is that of its model, in a memory that is not too long
pub read_checked : (s : List ℕ) (sh : Sheet) (len : ℕ) → read_sheet s ≡ accepted_read sh
    → checked_sheet s len ≡ pick (leb len memory_limit) (checked sh len) (check_refused (refusal_at memory_too_large 0 0))
unfolding checked_sheet accepted_read pick
read_checked s sh len e = rw e refl

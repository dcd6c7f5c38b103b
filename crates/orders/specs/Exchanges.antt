-- Two stores next to each other in a sheet: exchanged, and without a byte that both write.
use Rattle.std.specs.Prelude.{ℕ, ◌+◌, ◌<◌, ◌≡◌, true, List, ◌++◌, get_or, set}
use Rattle.sheet.specs.declared.Cell.{Cell}
use Rattle.sheet.specs.declared.Sheet.{Sheet}
use Rattle.sheet_ranges.specs.Steps.{no_cell, the_step}
use Rattle.sheet_reader.specs.Reading.{read_sheet}
use Rattle.sheet_writer.specs.Bytes.{sheet_bytes}
use Rattle.carrying.specs.Steps.{Machine}
use Rattle.carrying.specs.Bytes.{is_store, StepWrites}

-- steps k and k + 1 of a sheet are stores
pub record TwoStores (sh : Sheet) (k : ℕ) : Type 0 where
  pub given : k + 1 < sh.steps
  pub one : is_store (the_step sh.step k) ≡ true
  pub two : is_store (the_step sh.step (k + 1)) ≡ true

-- no byte that one of them writes is written by the other
abbrev pub Apart : Sheet → ℕ → Machine → Type 0
Apart sh k m = (b : ℕ) → StepWrites sh m k b → StepWrites sh m (k + 1) b → ⊥

-- a sheet with other steps, and with steps k and k + 1 exchanged
abbrev pub with_steps : Sheet → List Cell → Sheet
with_steps sh cells = record { edition = sh.edition; tensors = sh.tensors; steps = sh.steps; step = cells }

abbrev pub exchanged_steps : ℕ → List Cell → List Cell
exchanged_steps k cells = set (set cells k (get_or cells (k + 1) no_cell)) (k + 1) (get_or cells k no_cell)

abbrev pub exchanged : ℕ → Sheet → Sheet
exchanged k sh = with_steps sh (exchanged_steps k sh.step)

-- the same of a sheet as bytes
abbrev pub exchanged_sheet : ℕ → List ℕ → List ℕ
exchanged_sheet k s = sheet_bytes (exchanged k (read_sheet s).sheet)

-- two lists that differ only in that one stretch and the one after it are exchanged
pub record Exchanged {A : Type 0} (xs ys one two : List A) : Type 0 where
  pub before : List A
  pub after : List A
  pub was : xs ≡ before ++ one ++ two ++ after
  pub is : ys ≡ before ++ two ++ one ++ after

-- What the functions that write records begin with, and what they leave: room for records from one of a tape on, and records written there.
use Rattle.std.specs.Prelude.{ℕ, ◌+◌, ◌*◌, ◌≤◌, ◌≡◌, List, ℤ, length}
use Rattle.std.proofs.lemmas.List.Edits.{sets}
use Rattle.records.specs.Records.{record_length, tape_numbers}
use Rattle.records.specs.declared.Record.{Record}

-- a tape has room for records from record `at` on
abbrev pub Room : List ℤ → ℕ → List Record → Type 0
Room tape at rs = (at + length rs) * record_length ≤ length tape

-- they are written there, and the next record's number is told
pub record Wrote (before after : List ℤ) (at : ℕ) (rs : List Record) (n : ℕ) : Type 0 where
  pub next : n ≡ at + length rs
  pub numbers : after ≡ sets before (at * record_length) (tape_numbers rs)

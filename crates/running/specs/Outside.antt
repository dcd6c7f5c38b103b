-- The bytes that no record of a tape puts.
use Rattle.std.specs.Prelude.{ℕ, zero, suc, ◌+◌, ◌<◌, ◌≢◌, List}
use Rattle.kinds.specs.Widths.{bytes_of}
use Rattle.sheet.specs.declared.Sheet.{Sheet}
use Rattle.registers.specs.Types.{the_type}
use Rattle.registers.specs.declared.MatrixType.{MatrixType}
use Rattle.records.specs.declared.Record.TheVariants.{Copy, Take, Put, Fill, Whole}
use Rattle.records.specs.declared.Decoded.{Decoded}
use Rattle.records.specs.declared.Decoded.TheVariants.{Good, Bad}
use Rattle.judging.specs.Records.{byte_at}
use Rattle.judging.specs.Judging.{decoded_types}

-- byte p is none that a record puts, by the types of the registers when it runs
abbrev pub OutsideRecord : List MatrixType → ℕ → Decoded → Type 0
OutsideRecord ts p (Good (Copy register object)) = Unit {0}
OutsideRecord ts p (Good (Take register first count byte up down)) = Unit {0}
OutsideRecord ts p (Good (Put register first count byte up down)) =
    (i j : ℕ) → i < count → j < bytes_of (the_type ts register).kind → p ≢ byte_at byte up down i + j
OutsideRecord ts p (Good (Fill register first count value)) = Unit {0}
OutsideRecord ts p (Good (Whole step)) = Unit {0}
OutsideRecord ts p Bad = Unit {0}

-- nor one that n records more put, the next of which is number k
unfoldable pub OutsideFrom : ℕ → Sheet → (ℕ → Decoded) → ℕ → List MatrixType → ℕ → Type 0
OutsideFrom zero sh the k ts p = Unit {0}
OutsideFrom (suc n) sh the k ts p = OutsideRecord ts p (the k) × OutsideFrom n sh the (k + 1) (decoded_types sh ts (the k)) p

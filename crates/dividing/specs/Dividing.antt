-- Counting a sheet's divisions in a memory of a length: refusals as the check gives them, and then no count.
use Rattle.std.specs.Prelude.{ℕ, List, eqb}
use Rattle.numbers.specs.Choice.{pick}
use Rattle.refusals.specs.Refusals.{not_refused}
use Rattle.refusals.specs.declared.Refusal.{Refusal}
use Rattle.sheet_reader.specs.Reading.{read_sheet}
use Rattle.checking.specs.Checking.{checked_sheet}
use Rattle.dividing.specs.declared.DivisionsAnswer.{DivisionsAnswer}
use Rattle.dividing.specs.Divisions.{divisions, total}

abbrev pub divisions_answer : Refusal → ℕ → DivisionsAnswer
divisions_answer r n = record { refusal = r; divisions = n }

unfoldable pub counted : List ℕ → ℕ → DivisionsAnswer
counted s len =
    pick (eqb (checked_sheet s len).refusal.number 0)
    (divisions_answer not_refused (total (divisions (read_sheet s).sheet len)))
    (divisions_answer (checked_sheet s len).refusal 0)

-- What the C interface gives, in rows of numbers.
use Rattle.std.specs.Prelude.{ℕ, leb, List, [], ◌∷◌}
use Rattle.numbers.specs.Choice.{pick}
use Rattle.refusals.specs.Refusals.{refusal_at}
use Rattle.refusals.specs.declared.Refusal.{Refusal}
use Rattle.outcomes.specs.declared.Outcome.{Outcome}
use Rattle.outcomes.specs.declared.Outcome.TheVariants.{Skipped, Filled, Discarded, Placed}
use Rattle.outcomes.specs.declared.Outside.{Outside}
use Rattle.outcomes.specs.declared.Outside.TheVariants.{Nowhere, Below, Above}
use Rattle.outcomes.specs.declared.Explained.{Explained}
use Rattle.sheet.specs.declared.Sheet.{Sheet}
use Rattle.registers.specs.Types.{the_type}
use Rattle.registers.specs.declared.MatrixType.{MatrixType}
use Rattle.expected.specs.Expected.{sort_of}
use Rattle.replaying.specs.declared.Verdict.{Verdict}
use Rattle.replaying.specs.declared.Verdict.TheVariants.{Agrees, Differs}

-- number, place, second place, count
abbrev pub answer_row : Refusal → ℕ → List ℕ
answer_row r count = r.number ∷ r.place ∷ r.element ∷ count ∷ []

-- layouts, views, steps: zeros for the empty sheet of a refusal
abbrev pub counts_row : Sheet → List ℕ
counts_row sh = sh.tensors.layouts ∷ sh.tensors.views ∷ sh.steps ∷ []

-- kind, rows, columns and 0: four zeros for an empty register
abbrev pub type_row : MatrixType → List ℕ → List ℕ
type_row t rest = t.kind ∷ t.rows ∷ t.columns ∷ 0 ∷ rest

-- the four registers'
abbrev pub types_row : List MatrixType → List ℕ
types_row ts = type_row (the_type ts 0) (type_row (the_type ts 1) (type_row (the_type ts 2) (type_row (the_type ts 3) [])))

-- 1 and 0 where a trace agrees, else 0 and the index: zeros for the difference of a refusal
abbrev pub verdict_row : Verdict → List ℕ
verdict_row Agrees = 1 ∷ 0 ∷ []
verdict_row (Differs index) = 0 ∷ index ∷ []

-- the byte of an element, or the bits that fill it; else 0
abbrev pub value_of : Outcome → ℕ
value_of Skipped = 0
value_of (Filled bits) = bits
value_of Discarded = 0
value_of (Placed byte) = byte

-- dimension and side: 0 inside, where the dimension is 0 too, 1 below, 2 above
abbrev pub side_row : Outside → List ℕ
side_row Nowhere = 0 ∷ 0 ∷ []
side_row (Below d) = d ∷ 1 ∷ []
side_row (Above d) = d ∷ 2 ∷ []

-- sort, value, dimension and side: zeros for what stands beside a refusal
abbrev pub outcome_row : Explained → List ℕ
outcome_row x = sort_of x.outcome ∷ value_of x.outcome ∷ side_row x.outside

-- the largest number of a row
abbrev pub row_most : ℕ
row_most = 4294967295

-- a refusal as a row can say it: only a trace has bytes past the largest number, and such a place is given as that
unfoldable pub capped : Refusal → Refusal
capped r = refusal_at r.number (pick (leb r.place row_most) r.place row_most) r.element

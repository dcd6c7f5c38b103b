-- A list of records, run one after the other: none is out of range at the types as they go.
use Rattle.std.specs.Prelude.{ℕ, suc, ◌+◌, ◌<◌, ◌≡◌, true, length, get_or}
use Rattle.std.proofs.Math.Path.{refl, ap}
use Rattle.std.proofs.Common.{◌∙◌, arith}
use mathlib.Core.List.{List, [], ◌∷◌, ◌++◌}
use Rattle.numbers.specs.Choice.{pick}
use Rattle.sheet.specs.declared.Sheet.{Sheet}
use Rattle.registers.specs.declared.MatrixType.{MatrixType}
use Rattle.refusals.specs.Refusals.{not_refused}
use Rattle.carrying.specs.Steps.{Machine}
use Rattle.records.specs.declared.Record.{Record}
use Rattle.records.specs.declared.Record.TheVariants.{Whole}
use Rattle.records.specs.declared.Decoded.{Decoded}
use Rattle.records.specs.declared.Decoded.TheVariants.{Good}
use Rattle.runs.proofs.Laws.States.{perform_all}
use Rattle.judging.specs.Records.{record_ok, record_types}
use Rattle.running.specs.Records.{ran_record}
use Rattle.judging.specs.Judging.{range_from}
use Rattle.running.specs.Running.{ran_decoded, ran_from}

-- record k + i of a tape is record i of a list
abbrev pub Says : (ℕ → Decoded) → ℕ → List Record → Type 0
Says the k rs = (i : ℕ) → i < length rs → the (k + i) ≡ Good (get_or rs i (Whole 0))

module _ (sh : Sheet) where
  -- no record is out of range, from registers of types ts on; types us are left
  pub data Passes (len : ℕ) : List Record → List MatrixType → List MatrixType → Type 0 where
    none : {ts : List MatrixType} → Passes len [] ts ts
    more : {r : Record} {rs : List Record} {ts us : List MatrixType} → record_ok sh ts len r ≡ true → Passes len rs (record_types sh ts r) us → Passes len (r ∷ rs) ts us

  pub passes_append : {len : ℕ} {rs qs : List Record} {ts us vs : List MatrixType} → Passes len rs ts us → Passes len qs us vs → Passes len (rs ++ qs) ts vs
  passes_append none q = q
  passes_append (more e p) q = more e (passes_append p q)

  -- records in order, each on what the last one left
  abbrev pub ran_all : List Record → Machine → Machine
  ran_all rs m = perform_all (ran_record sh) rs m

  -- ---- the records of a list by their numbers

  module _ (the : ℕ → Decoded) where
    says_first : (k : ℕ) (r : Record) (rs : List Record) → Says the k (r ∷ rs) → the k ≡ Good r
    says_first k r rs s = let e : k + 0 ≡ k = omega arith in rw e at (s 0 (omega arith))

    says_others : (k : ℕ) (r : Record) (rs : List Record) → Says the k (r ∷ rs) → Says the (k + 1) rs
    says_others k r rs s i l = let e : k + 1 + i ≡ k + suc i = omega arith in rw e (s (suc i) (omega arith))

    pub passes_range : {len : ℕ} {rs : List Record} {ts us : List MatrixType} (k : ℕ) → Says the k rs → Passes len rs ts us
        → range_from (length rs) sh len the k ts ≡ not_refused
    unfolding range_from pick
    passes_range k s none = refl
    passes_range k s (more {r = r} {rs = rs} e p) =
        rw (says_first k r rs s, e) (passes_range (k + 1) (says_others k r rs s) p)

    pub ran_list : (rs : List Record) (k : ℕ) (m : Machine) → Says the k rs → ran_from (length rs) sh the k m ≡ ran_all rs m
    unfolding ran_from perform_all
    ran_list [] k m s = refl
    ran_list (r ∷ rs) k m s =
        ap (λ (d : Decoded). ran_from (length rs) sh the (k + 1) (ran_decoded sh d m)) (says_first k r rs s)
        ∙ ran_list rs (k + 1) (ran_record sh r m) (says_others k r rs s)

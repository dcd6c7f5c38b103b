-- The outcomes that the entries of a survey stand for: in range, and with the runs and the mask of their access.
use Prim.Native.Nat.{ℕ, ◌^◌, ◌<◌, ◌≤◌}
use mathlib.Core.Path.{◌≡◌, sym, ap, ◌∙◌}
use mathlib.Core.Bool.{Bool}
use mathlib.Core.List.{List}
use native.Mathlib.Omega.{arith}
use lib.ListN.{length, take, get_or}
use Rattle.std.proofs.lemmas.List.{length-take, get_or-take}
use Rattle.outcomes.specs.declared.Outcome.{Outcome}
use Rattle.outcomes.specs.declared.Outcome.TheVariants.{Skipped}
use Rattle.addressing.specs.Rules.{elements_of, low_bits}
use Rattle.addressing.specs.declared.Access.{Access}
use Rattle.accesses.specs.Entries.{entry_outcome, Told}
use Rattle.accesses.proofs.Laws.Surveys.{entry_cases}
use Rattle.transfers.specs.Transfers.{outcome_of}
use Rattle.accepted.specs.Accepted.{entries_outcome, Listed}
use Rattle.accepted.specs.declared.Outcomes.{Outcomes}
use Rattle.accepted.specs.Laws.Elements.{access_count, access_at}
use Rattle.runs.specs.Ranges.{Fitting}
use Rattle.runs.proofs.Laws.RunRecords.{records_of, of_runs}
use Rattle.runs.specs.Runs.{runs, runs_records}
use Rattle.runs.proofs.Laws.Writing.{runs_same, count_all, count_few}
use Rattle.masks.specs.Masks.{bit_of, mask_of}
use Rattle.masks.specs.Entries.{entry_bit}
use Rattle.masks.proofs.Laws.Bits.{entries_bit}
use Rattle.access_tapes.specs.Accesses.{access_outcomes}

-- an entry is of a byte of memory, and the bits that fill an element are 32
pub entry_fits : (fill : ℕ) → fill < 2 ^ 32 → (x : ℕ) → Fitting (entry_outcome fill x)
entry_fits fill h x = entry_cases Fitting fill tt (λ b l. omega (arith, l)) h tt x

-- the entry that a loop over the first n of them meets stands for its element's outcome
pub met : (entries : List ℕ) (n k fill : ℕ) {o : Outcome} → k < length (take n entries) → o ≡ entry_outcome fill (get_or (take n entries) k 0) → o ≡ entries_outcome entries fill k
met entries n k fill h e = let l : k < n = omega (arith, length-take {A = ℕ}) in rw get_or-take at e

-- no more runs than elements
pub runs_few : (f : ℕ → Outcome) (n : ℕ) → length (runs f n) ≤ n
runs_few f n = omega (arith, count_all f n, count_few f n)

-- the runs of an access are those that its entries say
pub told_runs : (a : Access) (entries : List ℕ) → Told a entries → runs (entries_outcome entries (low_bits a)) (elements_of a) ≡ runs (outcome_of a) (elements_of a)
told_runs a entries told = runs_same _ _ (elements_of a) told

module _ {a : Access} {entries : List ℕ} {o : Outcomes} (l : Listed a entries o) where
  pub listed_runs : runs (entries_outcome entries o.fill) o.count ≡ runs (outcome_of a) (elements_of a)
  listed_runs = rw l.count (runs_same _ _ (elements_of a) l.each)

  pub listed_records : (load : Bool) (register : ℕ) → runs_records load register (entries_outcome entries o.fill) o.count ≡ runs_records load register (outcome_of a) (elements_of a)
  listed_records load register =
      sym (of_runs load register _ o.count) ∙ ap (records_of load register) listed_runs ∙ of_runs load register _ (elements_of a)

  -- and so is its mask
  pub listed_mask : mask_of (entry_bit entries o.count) ≡ mask_of (bit_of (access_outcomes a))
  listed_mask =
      let os = access_outcomes a in
      let long : length os ≡ o.count = access_count outcome_of a ∙ sym l.count in
      let same = entries_bit entries o.fill os (λ e h. let inside : e < elements_of a = omega (arith, access_count outcome_of a) in l.each e inside ∙ sym (access_at outcome_of a e Skipped inside)) in
      ap mask_of (λ i e. (rw long at (same e)) i)

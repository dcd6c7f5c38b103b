-- None of the records of a load's or a store's runs is out of range, where each element passes.
use Prim.Native.Nat.{ℕ, zero, suc, ◌+◌, ◌*◌, ◌≤◌}
use Rattle.std.specs.Prelude.{◌≡◌, Bool, not, List, [], ◌∷◌}
use Rattle.std.proofs.Common.{subst, ◌∙◌, arith, le-leb}
use Rattle.std.proofs.Math.Bool.{true, false}
use Rattle.numbers.specs.Laws.Choice.{both_true}
use Rattle.numbers.specs.Laws.All.{all_true}
use Rattle.numbers.specs.Lists.{each}
use Rattle.kinds.specs.Widths.{bytes_of, fits}
use Rattle.outcomes.specs.declared.Outcome.{Outcome}
use Rattle.outcomes.specs.declared.Outcome.TheVariants.{Skipped, Filled, Discarded, Placed}
use Rattle.sheet.specs.declared.Sheet.{Sheet}
use Rattle.registers.specs.Types.{the_type, is_empty}
use Rattle.registers.specs.declared.MatrixType.{MatrixType}
use Rattle.records.specs.Records.{moved}
use Rattle.runs.specs.declared.Run.{Run}
use Rattle.runs.specs.declared.Run.TheVariants.{Idle, Bytes, Fills}
use Rattle.runs.specs.Runs.{held, ending, run_records, ended_records, runs_records}
use Rattle.runs.proofs.Theorems.Longest.{Going, Pouring, Open, held_open, ending_open}
use Rattle.judging.specs.Records.{bytes_record_ok, fill_record_ok}
use Rattle.judging.specs.Laws.Bytes.{inside_natural}
use Rattle.agreement.specs.Laws.Passing.{Passes, none, more, passes_append}

-- an element that has a byte has all of its bytes in memory, and what fills an element fits its kind
abbrev pub Passable : ℕ → ℕ → Outcome → Type 0
Passable kind len Skipped = Unit {0}
Passable kind len (Filled v) = fits kind v ≡ true
Passable kind len Discarded = Unit {0}
Passable kind len (Placed b) = b + bytes_of kind ≤ len

module _ (sh : Sheet) (len : ℕ) (load : Bool) (register : ℕ) (ts : List MatrixType) (t : MatrixType) (is : the_type ts register ≡ t) (some : is_empty t ≡ false) where
  not_empty : not (is_empty t) ≡ true
  not_empty = rw some

  module _ (f : ℕ → Outcome) (fine : (i : ℕ) → Passable t.kind len (f i)) (k : ℕ) (few : k ≤ t.rows * t.columns) where
    bytes_pass : (e n b u d : ℕ) → Going f k e n b u d → bytes_record_ok t len e n b u d ≡ true
    unfolding bytes_record_ok
    bytes_pass e n b u d g =
        both_true _ _ not_empty
        (both_true _ _ (le-leb (e + n) (t.rows * t.columns) (omega (arith, g.ends)))
        (all_true n _ (λ i l. inside_natural b u d i (bytes_of t.kind) len ∙ both_true _ _ (le-leb (i * d) (b + i * u) (g.low i l))
        (le-leb _ len (subst (Passable t.kind len) (g.at i l) (fine (e + i)))))))

    fill_passes : (e n v : ℕ) → Pouring f k e n v → fill_record_ok t e n v ≡ true
    unfolding fill_record_ok
    fill_passes e n v g =
        both_true _ _ not_empty
        (both_true _ _ (le-leb (e + n) (t.rows * t.columns) (omega (arith, g.ends)))
        (subst (Passable t.kind len) (g.at 0 g.some) (fine (e + 0))))

    moved_passes : (e n b u d : ℕ) (take : Bool) → bytes_record_ok (the_type ts register) len e n b u d ≡ true → Passes sh len (moved take register e n b u d ∷ []) ts ts
    unfolding moved
    moved_passes e n b u d true p = more p none
    moved_passes e n b u d false p = more p none

    run_passes : (r : Run) → Open f k r → Passes sh len (run_records load register r) ts ts
    run_passes Idle g = none
    run_passes (Bytes e n b u d) g = moved_passes e n b u d load (rw is (bytes_pass e n b u d g))
    run_passes (Fills e n v) g = let p : fill_record_ok (the_type ts register) e n v ≡ true = rw is (fill_passes e n v g) in more p none

  module _ (f : ℕ → Outcome) (fine : (i : ℕ) → Passable t.kind len (f i)) where
    ended_pass : (n : ℕ) → n ≤ t.rows * t.columns → Passes sh len (ended_records load register f n) ts ts
    unfolding each
    ended_pass zero h = none
    ended_pass (suc n) h =
        passes_append sh (ended_pass n (omega arith)) (run_passes f fine n (omega arith) (ending f n) (ending_open f n))

    pub runs_pass : (n : ℕ) → n ≤ t.rows * t.columns → Passes sh len (runs_records load register f n) ts ts
    unfolding runs_records
    runs_pass n h = passes_append sh (ended_pass n h) (run_passes f fine n h (held f n) (held_open f n))

-- The records of a load's or a store's runs leave what its elements leave, on any machine.
use Prim.Native.Nat.{ℕ, zero, suc, ◌+◌, ◌*◌, ◌-◌}
use Rattle.std.specs.Prelude.{◌≡◌, Bool, List, [], ◌∷◌}
use Rattle.std.proofs.Math.Path.{refl, sym, ap}
use Rattle.std.proofs.Common.{◌∙◌, true≢false}
use Rattle.std.proofs.Math.Bool.{true, false}
use Rattle.numbers.specs.Orders.{in_order}
use Rattle.numbers.specs.Lists.{each}
use Rattle.kinds.specs.Widths.{bytes_of}
use Rattle.outcomes.specs.declared.Outcome.{Outcome}
use Rattle.outcomes.specs.declared.Outcome.TheVariants.{Skipped, Filled, Discarded, Placed}
use Rattle.sheet.specs.declared.Sheet.{Sheet}
use Rattle.registers.specs.Types.{the_type}
use Rattle.registers.specs.declared.MatrixType.{MatrixType}
use Rattle.transfers.specs.Acts.{State, took, gave, put, loaded, stored}
use Rattle.transfers.specs.Transfers.{transferred}
use Rattle.carrying.specs.Steps.{Machine, state_of, machine_of}
use Rattle.records.specs.declared.Record.TheVariants.{Fill}
use Rattle.records.specs.Records.{moved}
use Rattle.runs.specs.Runs.{runs_records}
use Rattle.runs.specs.Acts.{Act, one, spread, pour, meet, give}
use Rattle.runs.proofs.Laws.States.{fold, elementwise, fold_append, same_records}
use Rattle.moves.specs.Elements.{on_elements}
use Rattle.running.specs.Records.{ran_record_with, ran_record}
use Rattle.judging.specs.Laws.Bytes.{byte_natural}
use Rattle.agreement.specs.Laws.Passing.{ran_all}

-- an element meets its byte: on a load it takes the bits there, on a store it is written there
abbrev crossed : Bool → ℕ → ℕ → ℕ → ℕ → State → State
crossed true = took
crossed false = put

-- what the outcome of an element does
abbrev pub element_done : Bool → ℕ → ℕ → ℕ → Outcome → State → State
element_done true = loaded
element_done false = stored

-- one act on a machine
abbrev acted : Bool → ℕ → Machine → Act → Machine
acted load register m (meet e b) =
    machine_of m.registers.types (crossed load (bytes_of (the_type m.registers.types register).kind) register e b (state_of m))
acted load register m (give e v) = machine_of m.registers.types (gave register e v (state_of m))

-- only a load fills
abbrev pub FillsOnLoad : Bool → Outcome → Type 0
FillsOnLoad load Skipped = Unit {0}
FillsOnLoad load (Filled v) = load ≡ true
FillsOnLoad load Discarded = Unit {0}
FillsOnLoad load (Placed b) = Unit {0}

module _ (sh : Sheet) (register : ℕ) where
  -- a take or a put crosses its elements
  moved_crosses : (load : Bool) (first count byte up down : ℕ) (m : Machine)
      → ran_record sh (moved load register first count byte up down) m
      ≡ on_elements register (λ (size i : ℕ) (s : State). crossed load size register (first + i) (byte + i * up - i * down) s) count m
  unfolding ran_record_with moved
  moved_crosses true first count byte up down m =
      λ j. on_elements register (λ (size i : ℕ) (s : State). crossed true size register (first + i) (byte_natural byte up down i j) s) count m
  moved_crosses false first count byte up down m =
      λ j. on_elements register (λ (size i : ℕ) (s : State). crossed false size register (first + i) (byte_natural byte up down i j) s) count m

  crosses : (load : Bool) (first count byte up down : ℕ) (m : Machine)
      → on_elements register (λ (size i : ℕ) (s : State). crossed load size register (first + i) (byte + i * up - i * down) s) count m
      ≡ fold (acted load register) m (spread first count byte up down)
  unfolding in_order spread each fold
  crosses load first zero byte up down m = refl
  crosses load first (suc n) byte up down m =
      ap (λ (x : Machine). acted load register x (meet (first + n) (byte + n * up - n * down))) (crosses load first n byte up down m)
      ∙ sym (fold_append (acted load register) m (spread first n byte up down) (meet (first + n) (byte + n * up - n * down) ∷ []))

  pours : (load : Bool) (first count value : ℕ) (m : Machine)
      → ran_record sh (Fill register first count value) m ≡ fold (acted load register) m (pour first count value)
  unfolding ran_record_with in_order pour each fold
  pours load first zero value m = refl
  pours load first (suc n) value m =
      ap (λ (x : Machine). acted load register x (give (first + n) value)) (pours load first n value m)
      ∙ sym (fold_append (acted load register) m (pour first n value) (give (first + n) value ∷ []))

  -- one element
  one_done : (load : Bool) (ts : List MatrixType) (k : ℕ) (o : Outcome) (s : State) → FillsOnLoad load o
      → fold (acted load register) (machine_of ts s) (one k o) ≡ machine_of ts (element_done load (bytes_of (the_type ts register).kind) register k o s)
  unfolding fold
  one_done true ts k Skipped s h = refl
  one_done true ts k (Filled v) s h = refl
  one_done true ts k Discarded s h = refl
  one_done true ts k (Placed b) s h = refl
  one_done false ts k Skipped s h = refl
  one_done false ts k (Filled v) s h = absurd (true≢false (sym h))
  one_done false ts k Discarded s h = refl
  one_done false ts k (Placed b) s h = refl

  elements_done : (load : Bool) (f : ℕ → Outcome) (n : ℕ) (m : Machine) → ((i : ℕ) → FillsOnLoad load (f i))
      → elementwise (acted load register) f n m
      ≡ machine_of m.registers.types (transferred (element_done load (bytes_of (the_type m.registers.types register).kind) register) f n (state_of m))
  unfolding elementwise transferred
  elements_done load f zero m h = refl
  elements_done load f (suc n) m h =
      ap (λ (x : Machine). fold (acted load register) x (one n (f n))) (elements_done load f n m h)
      ∙ one_done load m.registers.types n (f n) _ (h n)

  pub runs_done : (load : Bool) (f : ℕ → Outcome) (n : ℕ) (m : Machine) → ((i : ℕ) → FillsOnLoad load (f i))
      → ran_all sh (runs_records load register f n) m
      ≡ machine_of m.registers.types (transferred (element_done load (bytes_of (the_type m.registers.types register).kind) register) f n (state_of m))
  runs_done load f n m h =
      same_records (acted load register) (ran_record sh) load register f n
      (λ first count byte up down s. moved_crosses load first count byte up down s ∙ crosses load first count byte up down s)
      (λ first count value s i l e. pours load first count value s) m
      ∙ elements_done load f n m h

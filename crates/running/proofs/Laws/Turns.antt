-- The turns over the records, and what they leave.
use Rattle.std.specs.Prelude.{ℕ, suc, ◌+◌, ◌-◌, ◌*◌, ◌<◌, ◌≤◌, ◌≡◌, refl, true, List, length}
use Rattle.std.proofs.Common.{◌∙◌}
use native.Mathlib.Omega.{arith}
use Rattle.numbers.specs.Choice.{pick}
use Rattle.numbers.specs.Laws.Choice.{pick_case}
use Rattle.sheet.specs.Sizes.{matrix_places}
use Rattle.sheet.specs.declared.Sheet.{Sheet}
use Rattle.refusals.specs.declared.Refusal.{Refusal}
use Rattle.sheet_ranges.specs.Laws.Within.{Within}
use Rattle.checking.specs.Laws.Turns.{one_less}
use Rattle.carrying.specs.Steps.{Machine}
use Rattle.carrying.specs.Carrying.{started}
use Rattle.carrying.specs.Machines.{Formed}
use Rattle.carrying.specs.Laws.Types.{started_formed}
use Rattle.records.specs.declared.Decoded.{Decoded}
use Rattle.judging.specs.Judging.{decoded_ok, decoded_types, range_from, range_refusal}
use Rattle.running.specs.Running.{ran_decoded, ran_from, ran}
use Rattle.running.proofs.Laws.Records.{decoded_types_lem, decoded_length, decoded_count, decoded_formed}

-- a machine before record k of n more: well formed, few elements counted, the rest in range, and the rest leaves the goal
pub record RunReady (n : ℕ) (sh : Sheet) (len : ℕ) (the : ℕ → Decoded) (k : ℕ) (m goal : Machine) : Type 0 where
  pub formed : Formed m
  pub few : m.counts.placed ≤ k * matrix_places
  pub kept : length m.memory ≡ len
  pub clear : (range_from n sh len the k m.registers.types).number ≡ 0
  pub rest : ran_from n sh the k m ≡ goal

pub ready_start : (n : ℕ) (sh : Sheet) (the : ℕ → Decoded) (memory : List ℕ) → (range_refusal n sh (length memory) the).number ≡ 0
    → RunReady n sh (length memory) the 0 (started memory) (ran n sh the (started memory))
ready_start n sh the memory h =
    record { formed = started_formed memory; few = omega arith; kept = refl; clear = h; rest = refl }

module _ (n : ℕ) (sh : Sheet) (len : ℕ) (the : ℕ → Decoded) (k : ℕ) (m goal : Machine) where
  first_in_range_lem : (range_from (suc n) sh len the k m.registers.types).number ≡ 0 → decoded_ok sh m.registers.types len (the k) ≡ true
  unfolding range_from
  first_in_range_lem =
      pick_case (λ (r : Refusal). r.number ≡ 0 → decoded_ok sh m.registers.types len (the k) ≡ true) (decoded_ok sh m.registers.types len (the k)) _ _
      (λ e h. e) (λ e h. absurd (omega arith))

  rest_in_range : (range_from (suc n) sh len the k m.registers.types).number ≡ 0 → (range_from n sh len the (k + 1) (decoded_types sh m.registers.types (the k))).number ≡ 0
  unfolding range_from pick
  rest_in_range h = rw (first_in_range_lem h) at h

  ready_next : RunReady (suc n) sh len the k m goal → Within sh → RunReady n sh len the (k + 1) (ran_decoded sh (the k) m) goal
  unfolding ran_from
  ready_next r w =
      let e = first_in_range_lem r.clear in
      let count = decoded_count sh m len (the k) e r.formed.sized in
      record {
        formed = decoded_formed sh m len w (the k) e r.formed;
        few = omega (arith, count, r.few);
        kept = decoded_length sh m len (the k) e ∙ r.kept;
        clear = rw (decoded_types_lem sh m len (the k) e) (rest_in_range r.clear);
        rest = r.rest;
      }

-- the same with what is left counted from the whole
module _ (n : ℕ) (sh : Sheet) (len : ℕ) (the : ℕ → Decoded) (k : ℕ) (m goal : Machine) (r : RunReady (n - k) sh len the k m goal) where
  pub turn_ok : k < n → decoded_ok sh m.registers.types len (the k) ≡ true
  turn_ok h = first_in_range_lem (n - (k + 1)) sh len the k m goal (rw (one_less n k h) at r).clear

  pub turn_next : k < n → Within sh → {m' : Machine} → m' ≡ ran_decoded sh (the k) m → RunReady (n - (k + 1)) sh len the (k + 1) m' goal
  turn_next h w e = rw e (ready_next (n - (k + 1)) sh len the k m goal (rw (one_less n k h) at r) w)

  pub turns_end : n ≤ k → m ≡ goal
  unfolding ran_from
  turns_end h = let e : n - k ≡ 0 = omega arith in (rw e at r).rest

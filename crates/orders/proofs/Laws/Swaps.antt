-- Two sheets that differ in the order of two stores next to each other: their steps are checked and performed alike.
use Prim.Native.Nat.{ℕ, zero, suc, ◌+◌, ◌<◌}
use Rattle.std.specs.Prelude.{◌≡◌, true, List, length, get_or, set}
use Rattle.std.proofs.Math.Path.{refl}
use Rattle.std.proofs.Common.{sym, ap, ◌∙◌, true≢false, length-set, get_or-set_same, get_or-set_other}
use native.Mathlib.Omega.{arith}
use Rattle.std.proofs.Math.ListN.{get_or-eq_default}
use Rattle.numbers.specs.Laws.Choice.{by_order}
use Rattle.sheet.specs.declared.Cell.{Cell}
use Rattle.sheet.specs.declared.Sheet.{Sheet}
use Rattle.sheet_ranges.specs.Steps.{no_cell, the_step}
use Rattle.registers.specs.declared.MatrixType.{MatrixType}
use Rattle.checking.specs.Steps.{checked_step}
use Rattle.checking.specs.Checking.{checked_from}
use Rattle.checking.specs.Laws.Turns.{first_clear, rest_clear}
use Rattle.checking.specs.declared.StepCheck.{StepCheck}
use Rattle.carrying.specs.Steps.{Machine, performed_step}
use Rattle.carrying.specs.Carrying.{performed_from}
use Rattle.carrying.specs.Bytes.{is_store}
use Rattle.orders.specs.Exchanges.{TwoStores, with_steps, exchanged_steps}
use Rattle.orders.proofs.Laws.Stores.{ApartOn, store_types, stores_exchange}

-- past the last place there is no store
store_inside : (cells : List Cell) (k : ℕ) → is_store (the_step cells k) ≡ true → k < length cells
store_inside cells k e =
    by_order k (length cells) (λ l. l)
    (λ l. absurd (true≢false (sym e ∙ ap (λ (c : Cell). is_store c.step) (get_or-eq_default cells no_cell l))))

-- cells with x at place k and y at the next
module _ (k : ℕ) (cells : List Cell) (x y : Cell) where
  at_first : k + 1 < length cells → get_or (set (set cells k x) (k + 1) y) k no_cell ≡ x
  at_first inside =
      get_or-set_other (set cells k x) (k + 1) k y no_cell (λ e. omega arith) ∙ get_or-set_same cells k x no_cell (omega arith)

  at_second : k + 1 < length cells → get_or (set (set cells k x) (k + 1) y) (k + 1) no_cell ≡ y
  at_second inside = get_or-set_same (set cells k x) (k + 1) y no_cell (omega (arith, length-set cells k x))

  pub elsewhere : (i : ℕ) → (i ≡ k → ⊥) → (i ≡ k + 1 → ⊥) → get_or (set (set cells k x) (k + 1) y) i no_cell ≡ get_or cells i no_cell
  elsewhere i d e = get_or-set_other (set cells k x) (k + 1) i y no_cell e ∙ get_or-set_other cells k i x no_cell d

-- steps that differ in the order of numbers k and k + 1 only, which are stores
pub record Swap (k : ℕ) (cells swapped : List Cell) : Type 0 where
  pub one : is_store (the_step cells k) ≡ true
  pub two : is_store (the_step cells (k + 1)) ≡ true
  pub first : the_step swapped k ≡ the_step cells (k + 1)
  pub second : the_step swapped (k + 1) ≡ the_step cells k
  pub others : (i : ℕ) → (i ≡ k → ⊥) → (i ≡ k + 1 → ⊥) → the_step swapped i ≡ the_step cells i

pub swap_back : {k : ℕ} {cells swapped : List Cell} → Swap k cells swapped → Swap k swapped cells
swap_back w =
    record {
      one = rw w.first w.two;
      two = rw w.second w.one;
      first = sym w.second;
      second = sym w.first;
      others = λ i d e. sym (w.others i d e);
    }

pub exchange_swaps : (k : ℕ) (sh : Sheet) → TwoStores sh k → Swap k sh.step (exchanged_steps k sh.step)
exchange_swaps k sh t =
    let inside = store_inside sh.step (k + 1) t.two in
    record {
      one = t.one;
      two = t.two;
      first = ap (λ (c : Cell). c.step) (at_first k sh.step _ _ inside);
      second = ap (λ (c : Cell). c.step) (at_second k sh.step _ _ inside);
      others = λ i d e. ap (λ (c : Cell). c.step) (elsewhere k sh.step _ _ i d e);
    }

-- two stores next to each other that are not refused: what the check says of them and the n steps after them is what it says of those
module _ (sh : Sheet) (len k : ℕ) (ts : List MatrixType) where
  abbrev check_at : ℕ → StepCheck
  check_at i = checked_step sh.edition sh.tensors ts len (the_step sh.step i)

  two_clear : (n count : ℕ) → is_store (the_step sh.step k) ≡ true → is_store (the_step sh.step (k + 1)) ≡ true
      → (check_at k).stop.number ≡ 0 → (check_at (k + 1)).stop.number ≡ 0
      → checked_from (suc (suc n)) sh len k ts count ≡ checked_from n sh len (k + 1 + 1) ts (count + (check_at k).placed + (check_at (k + 1)).placed)
  two_clear n count p q e f =
      rest_clear (suc n) sh len k ts count e
      ∙ rw (store_types sh.edition sh.tensors ts len (the_step sh.step k) p e)
      (rest_clear n sh len (k + 1) ts (count + (check_at k).placed) f
      ∙ rw (store_types sh.edition sh.tensors ts len (the_step sh.step (k + 1)) q f) refl)

  -- the second of two that are accepted is checked over the types that the first found
  second_clear : (n count : ℕ) → is_store (the_step sh.step k) ≡ true → (checked_from (suc (suc n)) sh len k ts count).refusal.number ≡ 0
      → (check_at (k + 1)).stop.number ≡ 0
  second_clear n count p h =
      let e = first_clear (suc n) sh len k ts count h in
      first_clear n sh len (k + 1) ts (count + (check_at k).placed)
      (rw (rest_clear (suc n) sh len k ts count e, store_types sh.edition sh.tensors ts len (the_step sh.step k) p e) at h)

module _ (k : ℕ) (sh : Sheet) (swapped : List Cell) (w : Swap k sh.step swapped) where
  abbrev sh' : Sheet
  sh' = with_steps sh swapped

  -- the steps after the two are checked and performed alike
  rest_checks : (n i len : ℕ) (ts : List MatrixType) (count : ℕ) → k + 1 < i → checked_from n sh' len i ts count ≡ checked_from n sh len i ts count
  unfolding checked_from
  rest_checks zero i len ts count l = refl
  rest_checks (suc n) i len ts count l =
      let c = checked_step sh.edition sh.tensors ts len (the_step sh.step i) in
      rw (w.others i (λ e. omega arith) (λ e. omega arith), rest_checks n (i + 1) len c.types (count + c.placed) (omega arith)) refl

  rest_performs : (n i : ℕ) (m : Machine) → k + 1 < i → performed_from n sh' i m ≡ performed_from n sh i m
  unfolding performed_from
  rest_performs zero i m l = refl
  rest_performs (suc n) i m l =
      rw (w.others i (λ e. omega arith) (λ e. omega arith))
      (rest_performs n (i + 1) (performed_step sh.tensors (the_step sh.step i) m) (omega arith))

  -- so are the two, in either order
  two_checks : (n len : ℕ) (ts : List MatrixType) (count : ℕ) → (checked_from (suc (suc n)) sh len k ts count).refusal.number ≡ 0
      → checked_from (suc (suc n)) sh' len k ts count ≡ checked_from (suc (suc n)) sh len k ts count
  two_checks n len ts count h =
      let at = check_at sh len k ts in
      let at' = check_at sh' len k ts in
      let e : (at k).stop.number ≡ 0 = first_clear (suc n) sh len k ts count h in
      let f : (at (k + 1)).stop.number ≡ 0 = second_clear sh len k ts n count w.one h in
      let back = swap_back w in
      let p : at' k ≡ at (k + 1) = rw w.first refl in
      let q : at' (k + 1) ≡ at k = rw w.second refl in
      let c : count + (at (k + 1)).placed + (at k).placed ≡ count + (at k).placed + (at (k + 1)).placed = omega arith in
      two_clear sh' len k ts n count back.one back.two (rw p f) (rw q e)
      ∙ rest_checks n (k + 1 + 1) len ts _ (omega arith)
      ∙ rw (p, q, c) (sym (two_clear sh len k ts n count w.one w.two e f))

  two_performs : (n : ℕ) (m : Machine) → ApartOn sh.tensors (the_step sh.step k) (the_step sh.step (k + 1)) m
      → performed_from (suc (suc n)) sh' k m ≡ performed_from (suc (suc n)) sh k m
  unfolding performed_from
  two_performs n m h =
      let x = the_step sh.step k in
      let y = the_step sh.step (k + 1) in
      rw (w.first, w.second, stores_exchange sh.tensors x y m w.one w.two h)
      (rest_performs n (k + 1 + 1) (performed_step sh.tensors x (performed_step sh.tensors y m)) (omega arith))

  -- and n steps, d before the two among them
  pub from_checks : (d n i len : ℕ) (ts : List MatrixType) (count : ℕ) → i + d ≡ k → d + 1 < n → (checked_from n sh len i ts count).refusal.number ≡ 0
      → checked_from n sh' len i ts count ≡ checked_from n sh len i ts count
  from_checks d zero i len ts count e l h = absurd (omega arith)
  from_checks d (suc zero) i len ts count e l h = absurd (omega arith)
  from_checks zero (suc (suc n)) i len ts count e l h =
      let z : i ≡ k = omega arith in rw z (two_checks n len ts count (rw z at h))
  from_checks (suc d) (suc (suc n)) i len ts count e l h =
      let step = the_step sh.step i in
      let c = checked_step sh.edition sh.tensors ts len step in
      let a : c.stop.number ≡ 0 = first_clear (suc n) sh len i ts count h in
      let s : the_step swapped i ≡ step = w.others i (λ q. omega arith) (λ q. omega arith) in
      let p : checked_step sh.edition sh.tensors ts len (the_step swapped i) ≡ c = rw s refl in
      let r = rest_clear (suc n) sh len i ts count a in
      rest_clear (suc n) sh' len i ts count (rw p a)
      ∙ rw (p, r) (from_checks d (suc n) (i + 1) len c.types (count + c.placed) (omega arith) (omega arith) (rw r at h))

  pub from_performs : (d n i : ℕ) (m : Machine) → i + d ≡ k → d + 1 < n → ApartOn sh.tensors (the_step sh.step k) (the_step sh.step (k + 1)) (performed_from d sh i m)
      → performed_from n sh' i m ≡ performed_from n sh i m
  unfolding performed_from
  from_performs d zero i m e l h = absurd (omega arith)
  from_performs d (suc zero) i m e l h = absurd (omega arith)
  from_performs zero (suc (suc n)) i m e l h = let z : i ≡ k = omega arith in rw z (two_performs n m h)
  from_performs (suc d) (suc (suc n)) i m e l h =
      let step = the_step sh.step i in
      rw (w.others i (λ q. omega arith) (λ q. omega arith))
      (from_performs d (suc n) (i + 1) (performed_step sh.tensors step m) (omega arith) (omega arith) h)

-- step k + n of a sheet is performed on what the n steps before it leave
pub from_last : (n : ℕ) (sh : Sheet) (k : ℕ) (m : Machine) → performed_from (n + 1) sh k m ≡ performed_step sh.tensors (the_step sh.step (k + n)) (performed_from n sh k m)
unfolding performed_from
from_last zero sh k m = let e : k + 0 ≡ k = omega arith in rw e refl
from_last (suc n) sh k m =
    let e : k + suc n ≡ k + 1 + n = omega arith in
    let f : suc n + 1 ≡ suc (n + 1) = omega arith in
    rw (e, f) (from_last n sh (k + 1) (performed_step sh.tensors (the_step sh.step k) m))

-- Laws of an access's elements, as the loops go over them.
pub mod Accepted
pub mod Surveys
use Prim.Native.Nat.{ℕ, zero, suc, ◌+◌, ◌-◌, ◌<◌, ◌≤◌, zero-le}
use mathlib.Core.Path.{◌≡◌, refl, sym, ap, ◌∙◌}
use mathlib.Core.Bool.{Bool, true, false}
use mathlib.Core.List.{List}
use native.Mathlib.Nat.{not-suc-le-zero, sub-zero}
use native.Mathlib.Numerals.{add-one}
use native.Mathlib.Omega.{arith}
use lib.Dec.{eqb}
use lib.ListN.{length, get_or, set, length-set}
use lib.Seq.{get_or-set_same, get_or-set_other}
use borrow.Author.Tests.{lt-ltb, le-ltb, eq-eqb, ne_eqb, eqb-true, eqb-false}
use Rattle.numbers.specs.Choice.{pick, both}
use Rattle.numbers.specs.Laws.Choice.{by_test}
use Rattle.outcomes.specs.declared.Outcome.{Outcome}
use Rattle.outcomes.specs.declared.Outcome.TheVariants.{Skipped, Filled, Discarded, Placed}
use Rattle.addressing.specs.declared.Access.{Access}
use Rattle.addressing.specs.declared.Located.{Located}
use Rattle.addressing.specs.Rules.{elements_of}
use Rattle.refusals.specs.Refusals.{unaligned_base, ranks_differ, blocked_store, byte_twice, stop_at}
use Rattle.refusals.specs.declared.Stop.{Stop}
use Rattle.clashes.specs.Clashes.{clash_from}
use Rattle.clashes.specs.Laws.Clashes.{clash_same}
use Rattle.clashes.specs.Entries.{filled_entry, discarded_entry, has_byte, hits, same_entry}
use Rattle.accesses.specs.declared.Tally.{Tally}
use Rattle.accesses.specs.Refusals.{element_outcome, first_refused, same_byte, same_at, clash_refusal, elements_refusal, placed_one, placed_count, checked_by, checked_elements, misplaced, other_rank, store_blocked, access_refusal, checked_access}
use Rattle.accesses.specs.Entries.{Near, entry_of, Surveyed}
use Rattle.accesses.specs.Rows.{Passed, Went, Row}
use Rattle.sheet.specs.Sizes.{matrix_places, memory_limit}
use Rattle.accesses.specs.declared.Checked.{Checked}

-- the number of a check's refusal
abbrev pub number : Checked → ℕ
number c = c.stop.number

-- two entries tell whether their elements have the same byte
entries_miss : (y b : ℕ) → b < memory_limit → (y ≡ b + 1 → ⊥) → hits y (b + 1) ≡ false
unfolding hits has_byte both pick
entries_miss y b h d = rw (ne_eqb (b + 1) 0 (omega arith), lt-ltb (b + 1) filled_entry (omega arith), ne_eqb y (b + 1) d)

pub entries_same : (o p : Outcome) → Near o → Near p → hits (entry_of o) (entry_of p) ≡ same_byte o p
unfolding hits has_byte both pick
entries_same Skipped Skipped n m = refl
entries_same Skipped (Filled b) n m = refl
entries_same Skipped Discarded n m = refl
entries_same Skipped (Placed y) n m = entries_miss 0 y m (λ e. omega arith)
entries_same (Filled a) Skipped n m = refl
entries_same (Filled a) (Filled b) n m = refl
entries_same (Filled a) Discarded n m = refl
entries_same (Filled a) (Placed y) n m = entries_miss filled_entry y m (λ e. omega arith)
entries_same Discarded Skipped n m = refl
entries_same Discarded (Filled b) n m = refl
entries_same Discarded Discarded n m = refl
entries_same Discarded (Placed y) n m = entries_miss discarded_entry y m (λ e. omega arith)
entries_same (Placed x) Skipped n m = refl
entries_same (Placed x) (Filled b) n m = refl
entries_same (Placed x) Discarded n m = refl
entries_same (Placed x) (Placed y) n m =
    rw (ne_eqb (y + 1) 0 (omega arith), lt-ltb (y + 1) filled_entry (omega arith))
    (by_test (eqb x y) (λ t. let e : x ≡ y = eqb-true x y t in rw (t, eq-eqb (x + 1) (y + 1) (omega arith)))
    (λ t. let d : x ≡ y → ⊥ = eqb-false x y t in rw (t, ne_eqb (x + 1) (y + 1) (omega arith))))

module _ (f : ℕ → Located) where
  stop_here : (k m : ℕ) → 0 < m → ((f k).refusal ≡ 0 → ⊥) → first_refused f k m ≡ stop_at (f k).refusal k
  unfolding first_refused pick
  stop_here k zero h n = absurd (not-suc-le-zero h)
  stop_here k (suc m) h n = rw (ne_eqb _ _ n)

  stop_next : (k m : ℕ) → 0 < m → (f k).refusal ≡ 0 → first_refused f (k + 1) (m - 1) ≡ first_refused f k m
  unfolding first_refused pick
  stop_next k zero h e = absurd (not-suc-le-zero h)
  stop_next k (suc m) h e = let s : suc m - 1 ≡ m = omega arith in rw (add-one, s, e)

  stop_end : (k m : ℕ) → m ≤ 0 → first_refused f k m ≡ stop_at 0 0
  unfolding first_refused
  stop_end k zero h = refl
  stop_end k (suc m) h = absurd (not-suc-le-zero h)

  count_more : (k : ℕ) → placed_count f k + placed_one (f k).outcome ≡ placed_count f (k + 1)
  unfolding placed_count
  count_more k = rw add-one

  pub passed_none : (m : ℕ) (entries : List ℕ) → m ≤ matrix_places → length entries ≡ matrix_places → Passed f m 0 0 entries
  unfolding placed_count
  passed_none m entries most e =
      record { inside = zero-le; most = most; room = e; few = zero-le; stop = rw sub-zero; count = refl; each = λ i h. absurd (not-suc-le-zero h) }

  -- a turn at k, where element k is r
  module _ {m k placed : ℕ} {entries : List ℕ} (inv : Passed f m k placed entries) (r : Located) (h : k < m) (er : r ≡ f k) where
    pub passed_stop : (r.refusal ≡ 0 → ⊥) → stop_at r.refusal k ≡ first_refused f 0 m
    passed_stop n = rw er (sym (stop_here k (m - k) (omega arith) (rw er at n)) ∙ inv.stop)

    pub passed_more : {x y : ℕ} → r.refusal ≡ 0 → x ≡ entry_of r.outcome → y ≡ placed_one r.outcome → y ≤ 1
        → Passed f m (k + 1) (placed + y) (set entries k x)
    passed_more {x} {y} e ex ey one =
        let s : m - (k + 1) ≡ m - k - 1 = omega arith in
        record {
          inside = omega arith;
          most = inv.most;
          room = length-set entries k x ∙ inv.room;
          few = omega (arith, inv.few);
          stop = rw s (stop_next k (m - k) (omega arith) (rw er at e) ∙ inv.stop);
          count = rw (inv.count, ey, er) (count_more k);
          each = λ i l.
              by_test (eqb i k)
              (λ t. let q : i ≡ k = eqb-true i k t in
              rw (q, get_or-set_same entries k x 0 (omega (arith, inv.room, inv.most)), ex, er))
              (λ t. let q : i ≡ k → ⊥ = eqb-false i k t in get_or-set_other entries k i x 0 q ∙ inv.each i (omega arith));
        }

  pub passed_end : {m k placed : ℕ} {entries : List ℕ} → Passed f m k placed entries → m ≤ k → stop_at 0 0 ≡ first_refused f 0 m
  passed_end {m} {k} inv h = sym (stop_end k (m - k) (omega arith)) ∙ inv.stop

-- the search over the entries is the search over the elements
pub clash_surveyed : {f : ℕ → Located} {m : ℕ} {r : Tally} {entries : List ℕ} → ((i : ℕ) → Near (f i).outcome) → Surveyed f m r entries
    → r.stop.number ≡ 0 → clash_from (same_entry entries) 0 m ≡ clash_from (same_at f) 0 m
clash_surveyed {f} {m} {r} {entries} near s z =
    clash_same (same_entry entries) (same_at f) m
    (λ i j h l. rw (s.each z i h, s.each z j l) (entries_same (f i).outcome (f j).outcome (near i) (near j))) 0 m (omega arith)

-- Refusals 12 to 15, by the way that the code took
module _ (load : Bool) (f : ℕ → Located) (m : ℕ) {s : Stop} (e : s ≡ first_refused f 0 m) where
  pub checked_refused : (s.number ≡ 0 → ⊥) → checked_by (stop_at s.number s.element) 0 ≡ checked_elements f m (elements_refusal load f m)
  unfolding checked_elements elements_refusal pick
  checked_refused n = rw (← e, ne_eqb s.number 0 n, ne_eqb s.number 0 n)

  module _ (z : s.number ≡ 0) where
    pub checked_load : {placed : ℕ} → load ≡ true → placed ≡ placed_count f m → checked_by (stop_at 0 0) placed ≡ checked_elements f m (elements_refusal load f m)
    unfolding checked_elements elements_refusal pick
    checked_load t c = rw (← e, z, t) (ap (checked_by (stop_at 0 0)) c)

    module _ (i : ℕ) (t : load ≡ false) (clash : i ≡ clash_from (same_at f) 0 m) where
      pub checked_clash : i < m → checked_by (stop_at byte_twice i) 0 ≡ checked_elements f m (elements_refusal load f m)
      unfolding checked_elements elements_refusal clash_refusal pick
      checked_clash h = rw (← e, z, t, ← clash, lt-ltb i m h)

      pub checked_apart : {placed : ℕ} → m ≤ i → placed ≡ placed_count f m → checked_by (stop_at 0 0) placed ≡ checked_elements f m (elements_refusal load f m)
      unfolding checked_elements elements_refusal clash_refusal pick
      checked_apart h c = rw (← e, z, t, ← clash, le-ltb i m h) (ap (checked_by (stop_at 0 0)) c)

-- Refusals 9 to 11
module _ (a : Access) where
  pub access_nine : misplaced a ≡ true → checked_by (stop_at unaligned_base 0) 0 ≡ checked_access a
  unfolding access_refusal checked_elements pick
  access_nine e = rw e

  module _ (nine : misplaced a ≡ false) where
    pub access_ten : other_rank a ≡ true → checked_by (stop_at ranks_differ 0) 0 ≡ checked_access a
    unfolding access_refusal checked_elements pick
    access_ten e = rw (nine, e)

    module _ (ten : other_rank a ≡ false) where
      pub access_eleven : store_blocked a ≡ true → checked_by (stop_at blocked_store 0) 0 ≡ checked_access a
      unfolding access_refusal checked_elements pick
      access_eleven e = rw (nine, ten, e)

      pub access_elements : store_blocked a ≡ false
          → checked_elements (element_outcome a) (elements_of a) (elements_refusal a.load (element_outcome a) (elements_of a)) ≡ checked_access a
      unfolding access_refusal pick
      access_elements e = rw (nine, ten, e)

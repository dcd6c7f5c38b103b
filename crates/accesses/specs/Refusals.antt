-- The elements of a load or a store in order, and refusals 9 to 15.
use Rattle.std.specs.Prelude.{ℕ, zero, suc, ◌+◌, ◌/◌, ◌%◌, Bool, false, not, eqb, ltb, leb}
use Rattle.numbers.specs.Choice.{pick, both}
use Rattle.numbers.specs.All.{all}
use Rattle.tensor_ranges.specs.Layouts.{the_dimension}
use Rattle.sheet.specs.declared.Layout.{Layout}
use Rattle.outcomes.specs.declared.Outcome.{Outcome}
use Rattle.outcomes.specs.declared.Outcome.TheVariants.{Skipped, Filled, Discarded, Placed}
use Rattle.addressing.specs.declared.Access.{Access}
use Rattle.addressing.specs.declared.Located.{Located}
use Rattle.addressing.specs.Rules.{elements_of, located}
use Rattle.refusals.specs.Refusals.{unaligned_base, ranks_differ, blocked_store, byte_twice, stop_at}
use Rattle.refusals.specs.declared.Stop.{Stop}
use Rattle.clashes.specs.Clashes.{clash_from}
use Rattle.accesses.specs.declared.Checked.{Checked}

-- what becomes of element number k: of N columns its row is k / N, its column k mod N
unfoldable pub element_outcome : Access → ℕ → Located
element_outcome a k = located a (k / a.columns) (k % a.columns)

-- Refusal 9: base not a multiple of 16
abbrev pub misplaced : Access → Bool
misplaced a = not (eqb (a.base % 16) 0)

-- Refusal 10: view without dimensions and another dimension count than the layout's
unfoldable pub other_rank : Access → Bool
other_rank a = both a.viewed (both (not a.view.sized) (not (eqb a.view.rank a.layout.rank)))

-- no block size is above 1
unfoldable pub blocks_one : Layout → Bool
blocks_one l = all l.rank (λ (d : ℕ). leb (the_dimension l.dimensions d).block 1)

-- Refusal 11: store with a block size above 1
unfoldable pub store_blocked : Access → Bool
store_blocked a = both (not a.load) (not (blocks_one a.layout))

-- Refusals 12, 13 and 14, element by element: the first refused of the m elements from k on
unfoldable pub first_refused : (ℕ → Located) → ℕ → ℕ → Stop
first_refused f k zero = stop_at 0 0
first_refused f k (suc m) = pick (eqb (f k).refusal 0) (first_refused f (suc k) m) (stop_at (f k).refusal k)

-- two elements have the same byte
abbrev pub same_byte : Outcome → Outcome → Bool
same_byte (Placed x) (Placed y) = eqb x y
same_byte (Placed x) Skipped = false
same_byte (Placed x) (Filled b) = false
same_byte (Placed x) Discarded = false
same_byte Skipped o = false
same_byte (Filled b) o = false
same_byte Discarded o = false

-- which two elements have the same byte
abbrev pub same_at : (ℕ → Located) → ℕ → ℕ → Bool
same_at f j i = same_byte (f j).outcome (f i).outcome

-- Refusal 15: a store where a later element has an earlier one's byte, at the first such later element
unfoldable pub clash_refusal : ℕ → ℕ → Stop
clash_refusal m i = pick (ltb i m) (stop_at byte_twice i) (stop_at 0 0)

-- Refusals 12 to 15 of m elements: 12, 13, 14 element by element, 15 after all
unfoldable pub elements_refusal : Bool → (ℕ → Located) → ℕ → Stop
elements_refusal load f m =
    pick (eqb (first_refused f 0 m).number 0)
    (pick load (stop_at 0 0) (clash_refusal m (clash_from (same_at f) 0 m)))
    (first_refused f 0 m)

-- Refusals 9 to 15
unfoldable pub access_refusal : Access → Stop
access_refusal a =
    pick (misplaced a) (stop_at unaligned_base 0)
    (pick (other_rank a) (stop_at ranks_differ 0)
    (pick (store_blocked a) (stop_at blocked_store 0)
    (elements_refusal a.load (element_outcome a) (elements_of a))))

-- 1 for an element with a byte
abbrev pub placed_one : Outcome → ℕ
placed_one Skipped = 0
placed_one (Filled b) = 0
placed_one Discarded = 0
placed_one (Placed b) = 1

-- how many of m elements have a byte
unfoldable pub placed_count : (ℕ → Located) → ℕ → ℕ
placed_count f zero = 0
placed_count f (suc m) = placed_count f m + placed_one (f m).outcome

-- a refusal, or the number of elements with a byte
abbrev pub checked_by : Stop → ℕ → Checked
checked_by s placed = record { stop = s; placed = placed }

unfoldable pub checked_elements : (ℕ → Located) → ℕ → Stop → Checked
checked_elements f m s = checked_by s (pick (eqb s.number 0) (placed_count f m) 0)

abbrev pub checked_access : Access → Checked
checked_access a = checked_elements (element_outcome a) (elements_of a) (access_refusal a)

-- Laws of bytes that ascend.
use Prim.Native.Nat.{ℕ, ◌+◌, ◌<◌, ◌≤◌}
use mathlib.Core.Path.{◌≡◌, refl, ◌∙◌}
use mathlib.Core.Bool.{true, false}
use mathlib.Core.List.{List}
use native.Mathlib.Numerals.{add-one}
use native.Mathlib.Omega.{arith}
use lib.ListN.{get_or}
use borrow.Author.Tests.{ne_eqb}
use Rattle.numbers.specs.Choice.{pick, both}
use Rattle.numbers.specs.Laws.Choice.{by_test}
use Rattle.clashes.specs.Clashes.{apart}
use Rattle.clashes.specs.Entries.{has_byte, hits, same_entry}
use Rattle.clashes.proofs.Laws.{seen, seen_meets, apart_start, apart_more}

-- The bytes of the first k elements ascend: each was new, and none is past that of the entry `last`.
pub record Ascending (entries : List ℕ) (k last : ℕ) : Type 0 where
  pub unseen : (x : ℕ) → (has_byte x ≡ true → last < x) → seen entries x k ≡ false
  pub far : apart (same_entry entries) k ≡ true

-- an entry is not the byte of one that has none, or a later one
misses : (y x : ℕ) → (has_byte x ≡ true → has_byte y ≡ true → y < x) → hits y x ≡ false
unfolding hits both pick
misses y x h =
    by_test (has_byte x) (λ t. rw (t, ne_eqb y x (λ e. let l : y < x = h t (rw e t) in omega arith)))
    (λ t. rw t)

module _ (entries : List ℕ) where
  pub ascending_start : Ascending entries 0 0
  unfolding seen
  ascending_start = record { unseen = λ x h. refl; far = apart_start _ }

  -- a turn at k, after which the last entry with a byte is `next`
  pub ascending_more : {k last : ℕ} (next : ℕ) → Ascending entries k last → last ≤ next
      → (has_byte (get_or entries k 0) ≡ true → (last < get_or entries k 0) × (get_or entries k 0 ≤ next))
      → Ascending entries (k + 1) next
  unfolding seen pick
  ascending_more {k} next v g b =
      record {
        unseen = λ x f. rw (add-one, misses (get_or entries k 0) x (λ t u. omega (arith, (b u).1, f t))) (v.unseen x (λ t. omega (arith, f t)));
        far = apart_more _ k v.far (seen_meets entries k k ∙ v.unseen (get_or entries k 0) (λ t. (b t).0));
      }

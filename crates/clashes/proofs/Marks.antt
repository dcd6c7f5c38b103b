-- Laws of the marks: what one more mark changes, and what they tell.
use Prim.Native.Nat.{ℕ, zero, suc, ◌+◌, ◌-◌, ◌*◌, ◌/◌, ◌%◌, ◌^◌, ◌<◌}
use mathlib.Core.Path.{◌≡◌, refl, sym, ap, ◌∙◌}
use mathlib.Core.Bool.{Bool, true, false, true≢false, not}
use mathlib.Core.List.{List}
use native.Mathlib.Nat.{mod-lt, div-add-mod', zero-div, zero-mod, div_self, div-eq_of_lt, pow-suc, mul-mod_left, one-mul, div-lt_iff_lt-mul}
use native.Mathlib.Numerals.{add-one}
use native.Mathlib.Omega.{arith}
use lib.Bits.{bit_or, or_shr, or_mod, or_zero_l, or_zero_r, or_self}
use lib.Dec.{eqb, ltb}
use lib.ListN.{length, get_or, set, length-set, length-replicate}
use lib.Pow.{pow_pos, pow-lt, pow-add, shl-shr, shl_exact}
use lib.Seq.{get_or-set_same, get_or-set_other}
use borrow.Author.Tests.{eq-eqb, ne_eqb, ltb-true, not-true}
use Rattle.numbers.specs.Choice.{pick, both}
use Rattle.numbers.specs.Laws.Choice.{both_right, by_test, by_place, by_order}
use Rattle.numbers.specs.Laws.All.{all_false}
use Rattle.numbers.specs.Laws.Places.{none_all}
use Rattle.clashes.specs.Clashes.{meets, apart}
use Rattle.clashes.specs.Entries.{filled_entry, has_byte, hits, same_entry}
use Rattle.clashes.specs.Marks.{mark_words, no_marks, word_of, bit_of, bit_at, unmarked, with_mark}
use Rattle.clashes.proofs.Laws.{seen, seen_meets, apart_start, apart_more}

-- a bit that is set, and the others
or_one : (x : ℕ) → x < 2 → bit_or x 1 ≡ 1
or_one zero h = or_zero_l 1
or_one (suc zero) h = or_self 1
or_one (suc (suc x)) h = absurd (omega arith)

pub bit_same : (word place : ℕ) → bit_at (bit_or word (2 ^ place)) place ≡ 1
bit_same word place =
    rw (or_shr word (2 ^ place) place, or_mod (word / 2 ^ place) (2 ^ place / 2 ^ place) 1, div_self (pow_pos place))
    (or_one (word / 2 ^ place % 2) (mod-lt (word / 2 ^ place) (omega arith)))

-- of a power of 2 every other bit is 0
power_bit : (place other : ℕ) → (place ≡ other → ⊥) → 2 ^ place / 2 ^ other % 2 ≡ 0
power_bit place other d =
    by_order place other
    (λ h. rw (div-eq_of_lt (pow-lt h)) (zero-mod 2))
    (λ h.
    let n = place - other - 1 in
    let e : place ≡ suc n + other = omega arith in
    rw (e, pow-add 2 (suc n) other, shl-shr (2 ^ suc n) other, pow-suc 2 n) (mul-mod_left (2 ^ n) 2))

pub bit_other : (word place other : ℕ) → (place ≡ other → ⊥) → bit_at (bit_or word (2 ^ place)) other ≡ bit_at word other
bit_other word place other d =
    rw (or_shr word (2 ^ place) other, or_mod (word / 2 ^ other) (2 ^ place / 2 ^ other) 1, power_bit place other d)
    (or_zero_r (word / 2 ^ other % 2))

-- the one bit that a shift of 1 sets
pub one_shifted : (place : ℕ) → place < 32 → 1 * 2 ^ place % 2 ^ 32 ≡ 2 ^ place
one_shifted place h = shl_exact {a = 1} 1 place 32 (omega arith) (omega arith) ∙ one-mul (2 ^ place)

-- an entry with a byte
module _ (x : ℕ) (h : has_byte x ≡ true) where
  pub byte_some : 0 < x
  unfolding has_byte both pick
  byte_some = let d : x ≡ 0 → ⊥ = λ e. true≢false (sym (rw e at h)) in omega arith

  pub byte_most : x < filled_entry
  unfolding has_byte
  byte_most = ltb-true x filled_entry (both_right (not (eqb x 0)) (ltb x filled_entry) h)

  pub word_inside : word_of x < mark_words
  word_inside = (div-lt_iff_lt-mul {k = 32} (omega arith)).1 (omega (arith, byte_most))

-- one more mark
mark_long : (ws : List ℕ) (x : ℕ) → length (with_mark ws x) ≡ length ws
unfolding with_mark pick
mark_long ws x =
    by_test (has_byte x) (λ t. rw t (length-set ws (word_of x) (bit_or (get_or ws (word_of x) 0) (2 ^ bit_of x)))) (λ t. rw t)

module _ (ws : List ℕ) (long : length ws ≡ mark_words) where
  place_differs : (y x : ℕ) → has_byte y ≡ true → has_byte x ≡ true → (y ≡ x → ⊥) → word_of y ≡ word_of x → bit_of y ≡ bit_of x → ⊥
  place_differs y x hy hx d w e =
      let p : word_of y * 32 + bit_of y ≡ y - 1 = div-add-mod' (y - 1) 32 in
      let q : word_of x * 32 + bit_of x ≡ x - 1 = div-add-mod' (x - 1) 32 in
      d (omega (arith, byte_some y hy, byte_some x hx))

  same_word : (y x : ℕ) → has_byte y ≡ true → has_byte x ≡ true → (y ≡ x → ⊥) → word_of y ≡ word_of x
      → bit_at (get_or (set ws (word_of y) (bit_or (get_or ws (word_of y) 0) (2 ^ bit_of y))) (word_of x) 0) (bit_of x) ≡ bit_at (get_or ws (word_of x) 0) (bit_of x)
  same_word y x hy hx d w =
      rw (w, get_or-set_same ws (word_of x) (bit_or (get_or ws (word_of x) 0) (2 ^ bit_of y)) 0 (rw long (word_inside x hx)))
      (bit_other (get_or ws (word_of x) 0) (bit_of y) (bit_of x) (place_differs y x hy hx d w))

  pub mark_more : (y x : ℕ) → unmarked (with_mark ws y) x ≡ pick (hits y x) false (unmarked ws x)
  unfolding unmarked with_mark hits both pick
  mark_more y x =
      by_test (has_byte x)
      (λ hx. by_place y x
      (λ q. rw (q, hx, get_or-set_same ws (word_of x) (bit_or (get_or ws (word_of x) 0) (2 ^ bit_of x)) 0 (rw long (word_inside x hx)), bit_same (get_or ws (word_of x) 0) (bit_of x), eq-eqb x x refl))
      (λ d. by_test (has_byte y)
      (λ hy. by_place (word_of y) (word_of x)
      (λ w. rw (hx, hy, ne_eqb y x d, same_word y x hy hx d w))
      (λ w. rw (hx, hy, ne_eqb y x d, get_or-set_other ws (word_of y) (word_of x) (bit_or (get_or ws (word_of y) 0) (2 ^ bit_of y)) 0 (λ e. w (sym e)))))
      (λ hy. rw (hx, hy, ne_eqb y x d))))
      (λ hx. rw hx)

not_pick : (t s : Bool) → not (pick t true s) ≡ pick t false (not s)
unfolding pick
not_pick true s = refl
not_pick false s = refl

-- where there is no mark
none_marked : (w : ℕ) → get_or no_marks w 0 ≡ 0
unfolding no_marks
none_marked w = none_all (λ (n : ℕ). n ≡ 0) mark_words 0 0 refl refl w

none_long : length no_marks ≡ mark_words
unfolding no_marks
none_long = length-replicate {A = ℕ} mark_words 0

-- The bytes of the first k elements are marked, and each was new.
pub record Marking (entries : List ℕ) (k : ℕ) (ws : List ℕ) : Type 0 where
  pub long : length ws ≡ mark_words
  pub each : (x : ℕ) → unmarked ws x ≡ not (seen entries x k)
  pub far : apart (same_entry entries) k ≡ true

-- without a mark every byte is new
start_unmarked : (x : ℕ) → unmarked no_marks x ≡ true
unfolding unmarked pick
start_unmarked x =
    let e : bit_at (get_or no_marks (word_of x) 0) (bit_of x) ≡ 0 = rw (none_marked (word_of x)) (ap (λ (n : ℕ). n % 2) (zero-div (2 ^ bit_of x))) in
    by_test (has_byte x) (λ h. rw h (eq-eqb _ 0 e)) (λ h. rw h)

module _ (entries : List ℕ) where
  pub marking_start : (ws : List ℕ) → ws ≡ no_marks → Marking entries 0 ws
  unfolding seen
  marking_start ws e =
      rw e
      record {
        long = none_long;
        each = start_unmarked;
        far = apart_start _;
      }

  -- a turn at k
  module _ (k : ℕ) (ws : List ℕ) (v : Marking entries k ws) where
    new_met : unmarked ws (get_or entries k 0) ≡ not (meets (same_entry entries) k k)
    new_met = rw (seen_meets entries k k) (v.each (get_or entries k 0))

    pub marking_more : unmarked ws (get_or entries k 0) ≡ true → Marking entries (k + 1) (with_mark ws (get_or entries k 0))
    unfolding seen
    marking_more e =
        record {
          long = mark_long ws (get_or entries k 0) ∙ v.long;
          each = λ x. rw add-one (mark_more ws v.long (get_or entries k 0) x ∙ rw (v.each x) (sym (not_pick (hits (get_or entries k 0) x) (seen entries x k))));
          far = apart_more _ k v.far (not-true _ (sym new_met ∙ e));
        }

    pub marking_stop : {m : ℕ} → k < m → unmarked ws (get_or entries k 0) ≡ false → apart (same_entry entries) m ≡ false
    unfolding apart
    marking_stop {m} h e = all_false m _ k h (sym new_met ∙ e)

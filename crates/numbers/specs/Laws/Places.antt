-- What stands at each place of a list: one that a loop wrote, and one whose first places are given and whose others are unused.
use Rattle.std.specs.Prelude.{ℕ, ◌+◌, ◌<◌, ◌≤◌, ◌≡◌, List, Bool, true, ltb, length, get_or, set, replicate}
use Rattle.std.proofs.Common.{sym, ◌∙◌, zero-add, not-suc-le-zero, arith, ltb-true, ltb-false, lt-ltb, le-ltb, ext_get_or, get_or-set_same, get_or-set_other}
use Rattle.std.proofs.lemmas.List.{length-replicate, get_or-replicate}
use Rattle.std.proofs.Math.ListN.{get_or-eq_default}
use Rattle.numbers.specs.Choice.{pick}
use Rattle.numbers.specs.Laws.Choice.{pick_case, by_place, by_order}
use Rattle.numbers.specs.All.{all}
use Rattle.numbers.specs.Laws.All.{all_at, all_true}
use Rattle.numbers.specs.Lists.{line}
use Rattle.numbers.specs.Laws.Lists.{length_line}
use Rattle.numbers.specs.Laws.Lines.{line_inside, line_outside}

-- a place past those written from the first on
past_line : {A : Type 0} (d : List A) (g : ℕ → A) (n k : ℕ) (z : A) → n ≤ k → get_or (line d 0 g n) k z ≡ get_or d k z
past_line d g n k z h = line_outside d 0 g n k z (λ i l. omega arith)

-- a list of N places of which the first n are g 0 .. g (n - 1) and the others none
module _ {A : Type 0} (N : ℕ) (none d : A) (g : ℕ → A) (n : ℕ) (h : n ≤ N) where
  pub places_given : (k : ℕ) → k < n → get_or (line (replicate N none) 0 g n) k d ≡ g k
  places_given k l =
      rw zero-add at (line_inside (replicate N none) 0 g n k d l (rw (zero-add n, length-replicate N none) h))

  pub places_past : (k : ℕ) → n ≤ k → k < N → get_or (line (replicate N none) 0 g n) k d ≡ none
  places_past k l m = past_line (replicate N none) g n k d l ∙ get_or-replicate N k none d m

  pub places_count : length (line (replicate N none) 0 g n) ≡ N
  places_count = length_line (replicate N none) 0 g n ∙ length-replicate N none

  pub places_are : (xs : List A) → length xs ≡ N → ((k : ℕ) → k < n → g k ≡ get_or xs k d) → ((k : ℕ) → n ≤ k → k < N → get_or xs k d ≡ none) → line (replicate N none) 0 g n ≡ xs
  places_are xs e f u =
      ext_get_or d _ xs (places_count ∙ sym e)
      (λ k l.
      let m : k < N = omega (arith, places_count) in
      by_order k n (λ q. places_given k q ∙ f k q) (λ q. places_past k q m ∙ sym (u k q m)))

-- what holds of none and of what stands past the end holds at every place of a list of none
pub none_all : {A : Type 0} (P : A → Type 0) (N : ℕ) (none d : A) → P none → P d → (k : ℕ) → P (get_or (replicate N none) k d)
none_all P N none d p q k =
    by_order k N (λ h. rw (get_or-replicate N k none d h) p)
    (λ h.
    let l : length (replicate N none) ≤ k = rw (length-replicate N none) h in
    rw (get_or-eq_default (replicate N none) d l) q)

-- what holds of none and of each one given holds at every place
pub places_all : {A : Type 0} (P : A → Type 0) (N : ℕ) (none : A) (g : ℕ → A) (n : ℕ) → n ≤ N → P none → ((k : ℕ) → k < n → P (g k)) → (k : ℕ) → P (get_or (line (replicate N none) 0 g n) k none)
places_all P N none g n h p f k =
    by_order k n (λ q. rw (places_given N none none g n h k q) (f k q))
    (λ q. rw (past_line (replicate N none) g n k none q) (none_all P N none none p p k))

-- what holds at a place and of what was put at one holds at that place afterwards
pub set_keeps : {A : Type 0} (P : A → Type 0) (d : A) (xs : List A) (n : ℕ) (x : A) → n < length xs → P x → (k : ℕ) → P (get_or xs k d) → P (get_or (set xs n x) k d)
set_keeps P d xs n x h p k q =
    by_place k n (λ e. rw (e, get_or-set_same xs n x d h) p) (λ e. rw (get_or-set_other xs n k x d e) q)

-- of N places the first count hold what is ok, the others what is unused
pub record Held {A : Type 0} (N : ℕ) (ok unused : A → Bool) (d : A) (count : ℕ) (xs : List A) : Type 0 where
  pub given : (k : ℕ) → k < count → ok (get_or xs k d) ≡ true
  pub past : (k : ℕ) → count ≤ k → k < N → unused (get_or xs k d) ≡ true

module _ {A : Type 0} (N : ℕ) (ok unused : A → Bool) (d : A) where
  -- the same as a test of every place
  abbrev pub place_ok : ℕ → List A → ℕ → Bool
  place_ok count xs k = pick (ltb k count) (ok (get_or xs k d)) (unused (get_or xs k d))

  pub held : (count : ℕ) (xs : List A) → count ≤ N → all N (place_ok count xs) ≡ true → Held N ok unused d count xs
  unfolding pick
  held count xs h e =
      record {
        given = λ k l. rw (lt-ltb k count l) at (all_at N (place_ok count xs) e k (omega arith));
        past = λ k l m. rw (le-ltb k count l) at (all_at N (place_ok count xs) e k m);
      }

  pub held_all : (count : ℕ) (xs : List A) → Held N ok unused d count xs → all N (place_ok count xs) ≡ true
  held_all count xs w =
      all_true N (place_ok count xs)
      (λ k l.
      pick_case (λ (b : Bool). b ≡ true) (ltb k count) (ok (get_or xs k d)) (unused (get_or xs k d))
      (λ q. w.given k (ltb-true k count q))
      (λ q. w.past k (ltb-false k count q) l))

  -- none is given
  pub held_none : (none : A) → unused none ≡ true → Held N ok unused d 0 (replicate N none)
  held_none none e =
      record {
        given = λ k l. absurd (not-suc-le-zero l);
        past = λ k l m. rw (get_or-replicate N k none d m) e;
      }

  -- one more is given
  pub held_more : (count : ℕ) (xs : List A) (x : A) → count < length xs → ok x ≡ true → Held N ok unused d count xs → Held N ok unused d (count + 1) (set xs count x)
  held_more count xs x h e w =
      record {
        given =
            λ k l.
            by_place k count (λ q. rw (q, get_or-set_same xs count x d h) e)
            (λ q. rw (get_or-set_other xs count k x d q) (w.given k (omega arith)));
        past =
            λ k l m.
            let q : k ≡ count → ⊥ = λ r. omega arith in
            rw (get_or-set_other xs count k x d q) (w.past k (omega arith) m);
      }

-- What matching one event after the other gives for whole lists.
use Prim.Native.Nat.{ℕ, suc, ◌+◌, ◌<◌, ◌≤◌}
use Rattle.std.specs.Prelude.{◌≡◌, true, false, get_or, drop}
use Rattle.std.proofs.Math.Path.{refl}
use Rattle.std.proofs.Common.{◌∙◌, zero-add, drop_of_length-le, drop-cons}
use mathlib.Core.List.{List, [], ◌∷◌, ◌++◌}
use Rattle.std.proofs.Math.Nat.{add-zero}
use Rattle.std.proofs.Math.Numerals.{add-one}
use native.Mathlib.Omega.{arith}
use borrow.Author.Tests.{ne_eqb, eq-eqb, lt-ltb, le-ltb}
use Rattle.std.proofs.Math.ListN.{length}
use Rattle.numbers.specs.Choice.{pick, both}
use Rattle.numbers.specs.Lists.{each}
use Rattle.numbers.specs.Laws.Choice.{pick_case, by_test, by_order}
use Rattle.numbers.specs.Laws.Lists.{each_more}
use Rattle.traces.specs.Events.{same_event}
use Rattle.traces.specs.declared.Event.{Event}
use Rattle.replaying.specs.Verdicts.{common}
use Rattle.replaying.specs.Matching.{matched, no_event, goes_on, match_one, match_all}
use Rattle.replaying.specs.declared.Matched.{Matched}

module _ (ys : List Event) where
  pub match_append : (m : Matched) (xs zs : List Event) → match_all ys m (xs ++ zs) ≡ match_all ys (match_all ys m xs) zs
  unfolding match_all
  match_append m [] zs = refl
  match_append m (x ∷ xs) zs = match_append (match_one ys m x) xs zs

  -- one event, by whether the trace goes on with it
  pub one_in : (m : Matched) (x : Event) → goes_on ys m x ≡ true → matched (m.index + 1) (m.count + 1) ≡ match_one ys m x
  unfolding match_one pick
  one_in m x e = rw e

  pub one_out : (m : Matched) (x : Event) → goes_on ys m x ≡ false → matched m.index (m.count + 1) ≡ match_one ys m x
  unfolding match_one pick
  one_out m x e = rw e

  -- events that come one by one
  pub match_none : (m : Matched) (f : ℕ → Event) → m ≡ match_all ys m (each 0 (λ (k : ℕ). f k ∷ []))
  unfolding match_all each
  match_none m f = refl

  pub match_more : (m : Matched) (f : ℕ → Event) (n : ℕ) → match_one ys (match_all ys m (each n (λ (k : ℕ). f k ∷ []))) (f n) ≡ match_all ys m (each (n + 1) (λ (k : ℕ). f k ∷ []))
  unfolding match_all
  match_more m f n = rw (each_more n (λ (k : ℕ). f k ∷ []), match_append m (each n (λ (k : ℕ). f k ∷ [])) (f n ∷ []))

  -- all that came are counted, and no more of them are in the trace
  pub match_count : (m : Matched) (xs : List Event) → (match_all ys m xs).count ≡ m.count + length xs
  unfolding match_all match_one
  match_count m [] = omega arith
  match_count m (x ∷ xs) = match_count (match_one ys m x) xs ∙ omega arith

  one_ordered : (m : Matched) (x : Event) → m.index ≤ m.count → (match_one ys m x).index ≤ m.count + 1
  unfolding match_one
  one_ordered m x h = pick_case (λ (i : ℕ). i ≤ m.count + 1) (goes_on ys m x) (m.index + 1) m.index (λ e. omega arith) (λ e. omega arith)

  pub match_ordered : (m : Matched) (xs : List Event) → m.index ≤ m.count → (match_all ys m xs).index ≤ (match_all ys m xs).count
  unfolding match_all match_one
  match_ordered m [] h = h
  match_ordered m (x ∷ xs) h = match_ordered (match_one ys m x) xs (one_ordered m x h)

  -- past the first difference nothing is in the trace any more
  past : (i n : ℕ) (xs : List Event) → i < n → match_all ys (matched i n) xs ≡ matched i (n + length xs)
  unfolding match_all match_one goes_on both pick
  past i n [] h = rw add-zero
  past i n (x ∷ xs) h =
      let e : n + 1 + length xs ≡ n + suc (length xs) = omega arith in
      rw (ne_eqb i n (λ q. omega arith), past i (n + 1) xs (omega arith), e)

  -- up to it the trace goes on, where its first n events are passed
  module _ (n : ℕ) (x : Event) where
    one_same : n < length ys → same_event x (get_or ys n no_event) ≡ true → match_one ys (matched n n) x ≡ matched (n + 1) (n + 1)
    unfolding match_one goes_on both pick
    one_same h e = rw (eq-eqb n n refl, lt-ltb n (length ys) h, e)

    one_other : same_event x (get_or ys n no_event) ≡ false → match_one ys (matched n n) x ≡ matched n (n + 1)
    unfolding match_one goes_on both pick
    one_other e = rw (eq-eqb n n refl, e) (by_order n (length ys) (λ h. rw (lt-ltb n (length ys) h)) (λ h. rw (le-ltb n (length ys) h)))

    one_ended : length ys ≤ n → match_one ys (matched n n) x ≡ matched n (n + 1)
    unfolding match_one goes_on both pick
    one_ended h = rw (eq-eqb n n refl, le-ltb n (length ys) h)

  past_one : (n : ℕ) (xs : List Event) → match_all ys (matched n (n + 1)) xs ≡ matched (n + 0) (n + suc (length xs))
  past_one n xs =
      let e : n + 1 + length xs ≡ n + suc (length xs) = omega arith in
      past n (n + 1) xs (omega arith) ∙ rw (e, add-zero n)

  from : (n : ℕ) (xs : List Event) → match_all ys (matched n n) xs ≡ matched (n + common xs (drop n ys)) (n + length xs)
  unfolding match_all common pick
  from n [] = rw add-zero
  from n (x ∷ xs) =
      by_order n (length ys)
      (λ h.
      by_test (same_event x (get_or ys n no_event))
      (λ e.
      let a : n + 1 + common xs (drop (n + 1) ys) ≡ n + suc (common xs (drop (n + 1) ys)) = omega arith in
      let b : n + 1 + length xs ≡ n + suc (length xs) = omega arith in
      rw (drop-cons ys n no_event h, e, one_same n x h e, ← add-one n) (from (n + 1) xs ∙ rw (a, b)))
      (λ e. rw (drop-cons ys n no_event h, e, one_other n x e) (past_one n xs)))
      (λ h. rw (drop_of_length-le ys h, one_ended n x h) (past_one n xs))

-- the whole list beside the whole trace
pub match_is : (ys xs : List Event) → match_all ys (matched 0 0) xs ≡ matched (common xs ys) (length xs)
match_is ys xs = from ys 0 xs ∙ rw (zero-add (common xs ys), zero-add (length xs))

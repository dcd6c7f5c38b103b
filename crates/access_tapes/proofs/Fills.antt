-- The runs that entries make are as many, whatever bits fill an element.
use Prim.Native.Nat.{ℕ, zero, suc, ◌*◌, ◌+◌, ◌-◌}
use mathlib.Core.Path.{◌≡◌, refl, sym, ap, ap₂, ◌∙◌}
use mathlib.Core.Bool.{Bool, true, false}
use mathlib.Core.List.{List}
use borrow.Author.Tests.{eq-eqb}
use lib.Dec.{eqb, ltb}
use lib.ListN.{length, get_or, length-append}
use Rattle.numbers.specs.Choice.{pick}
use Rattle.numbers.specs.Lists.{each}
use Rattle.outcomes.specs.declared.Outcome.{Outcome}
use Rattle.outcomes.specs.declared.Outcome.TheVariants.{Skipped, Filled, Discarded, Placed}
use Rattle.clashes.specs.Entries.{filled_entry}
use Rattle.accesses.specs.Entries.{entry_outcome}
use Rattle.accepted.specs.Accepted.{entries_outcome}
use Rattle.runs.specs.declared.Run.{Run}
use Rattle.runs.specs.declared.Run.TheVariants.{Idle, Bytes, Fills}
use Rattle.runs.specs.declared.Progress.{Progress}
use Rattle.runs.specs.Runs.{progress, meet_byte, meet_fill, next, emit, held, ending, ended, runs}
use Rattle.runs.proofs.Laws.Writing.{count_all}

-- the same outcome, run or turn where these bits fill an element
abbrev filled_outcome : ℕ → Outcome → Outcome
filled_outcome v Skipped = Skipped
filled_outcome v (Filled b) = Filled v
filled_outcome v Discarded = Discarded
filled_outcome v (Placed b) = Placed b

abbrev filled_run : ℕ → Run → Run
filled_run v Idle = Idle
filled_run v (Bytes e m b u d) = Bytes e m b u d
filled_run v (Fills e m w) = Fills e m v

abbrev filled_turn : ℕ → Progress → Progress
filled_turn v p = progress (filled_run v p.done) (filled_run v p.held)

module _ (v w : ℕ) where
  chosen : (a b c : Bool) (byte : ℕ) → pick a Skipped (pick b (Placed byte) (pick c (Filled v) Discarded)) ≡ filled_outcome v (pick a Skipped (pick b (Placed byte) (pick c (Filled w) Discarded)))
  unfolding pick
  chosen true b c byte = refl
  chosen false true c byte = refl
  chosen false false true byte = refl
  chosen false false false byte = refl

  entry_filled : (x : ℕ) → entry_outcome v x ≡ filled_outcome v (entry_outcome w x)
  unfolding entry_outcome
  entry_filled x = chosen (eqb x 0) (ltb x filled_entry) (eqb x filled_entry) (x - 1)

  met : (a : Bool) (p q : Progress) → p ≡ filled_turn v p → q ≡ filled_turn v q → pick a p q ≡ filled_turn v (pick a p q)
  unfolding pick
  met true p q e f = e
  met false p q e f = f

  byte_met : (e m b u d k b' : ℕ) → meet_byte e m b u d k b' ≡ filled_turn v (meet_byte e m b u d k b')
  unfolding meet_byte
  byte_met e m b u d k b' = met (eqb m 1) _ _ refl (met (eqb (b' + m * d) (b + m * u)) _ _ refl refl)

  fill_met : (e m k : ℕ) → meet_fill e m v k v ≡ filled_turn v (meet_fill e m w k w)
  unfolding meet_fill pick
  fill_met e m k = rw (eq-eqb v v refl, eq-eqb w w refl) refl

  one_more : (r : Run) (k : ℕ) (o : Outcome) → next (filled_run v r) k (filled_outcome v o) ≡ filled_turn v (next (filled_run w r) k (filled_outcome w o))
  unfolding next
  one_more Idle k Skipped = refl
  one_more (Bytes e m b u d) k Skipped = refl
  one_more (Fills e m x) k Skipped = refl
  one_more Idle k Discarded = refl
  one_more (Bytes e m b u d) k Discarded = refl
  one_more (Fills e m x) k Discarded = refl
  one_more Idle k (Placed b) = refl
  one_more (Bytes e m b u d) k (Placed b') = byte_met e m b u d k b'
  one_more (Fills e m x) k (Placed b) = refl
  one_more Idle k (Filled x) = refl
  one_more (Bytes e m b u d) k (Filled x) = refl
  one_more (Fills e m x) k (Filled y) = fill_met e m k

emit_filled : (v : ℕ) (r : Run) → length (emit (filled_run v r)) ≡ length (emit r)
emit_filled v Idle = refl
emit_filled v (Bytes e m b u d) = refl
emit_filled v (Fills e m w) = refl

module _ (entries : List ℕ) where
  abbrev turn : ℕ → ℕ → Progress
  turn v k = next (held (entries_outcome entries v) k) k (entries_outcome entries v k)

  -- from open runs that are the same but for their bits
  turn_filled : (v w k : ℕ) → ((x : ℕ) → held (entries_outcome entries x) k ≡ filled_run x (held (entries_outcome entries w) k)) → turn v k ≡ filled_turn v (turn w k)
  turn_filled v w k h =
      let r = held (entries_outcome entries w) k in
      let x = get_or entries k 0 in
      ap₂ (λ (a : Run) (o : Outcome). next a k o) (h v) (entry_filled v w x)
      ∙ one_more v w r k (entry_outcome w x)
      ∙ ap (filled_turn v) (sym (ap₂ (λ (a : Run) (o : Outcome). next a k o) (h w) (entry_filled w w x)))

  held_filled : (w k v : ℕ) → held (entries_outcome entries v) k ≡ filled_run v (held (entries_outcome entries w) k)
  unfolding held
  held_filled w zero v = refl
  held_filled w (suc k) v = ap (λ (p : Progress). p.held) (turn_filled v w k (λ x. held_filled w k x))

  ended_count : (v w k : ℕ) → length (ended (entries_outcome entries v) k) ≡ length (ended (entries_outcome entries w) k)
  unfolding each
  ended_count v w zero = refl
  ended_count v w (suc k) =
      let f = entries_outcome entries v in
      let g = entries_outcome entries w in
      let same = ap (λ (p : Progress). length (emit p.done)) (turn_filled v w k (held_filled w k)) ∙ emit_filled v (ending g k) in
      length-append (ended f k) (emit (ending f k))
      ∙ ap₂ (λ (m n : ℕ). m + n) (ended_count v w k) same
      ∙ sym (length-append (ended g k) (emit (ending g k)))

  pub runs_count : (v w n : ℕ) → length (runs (entries_outcome entries v) n) ≡ length (runs (entries_outcome entries w) n)
  runs_count v w n =
      let f = entries_outcome entries v in
      let g = entries_outcome entries w in
      let last = ap (λ (r : Run). length (emit r)) (held_filled w n v) ∙ emit_filled v (held g n) in
      count_all f n ∙ ap₂ (λ (m n : ℕ). m + n) (ended_count v w n) last ∙ sym (count_all g n)

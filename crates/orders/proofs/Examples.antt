-- Worked examples: what an order does, and why neither a store's elements nor two stores that are exchanged may share a byte.
use Rattle.std.specs.Prelude.{ℕ, ◌≡◌, refl, get_or}
use mathlib.Core.List.{List, [], ◌∷◌, foldl}
use Rattle.numbers.specs.Lists.{line, each}
use Rattle.outcomes.specs.declared.Outcome.{Outcome}
use Rattle.outcomes.specs.declared.Outcome.TheVariants.{Skipped, Discarded, Placed}
use Rattle.sheet.specs.declared.Cell.{Cell}
use Rattle.memory.specs.Elements.{with_element}
use Rattle.counts.specs.Counts.{no_counts}
use Rattle.transfers.specs.Acts.{State, state, stored}
use Rattle.orders.specs.Orders.{placed_of}
use Rattle.orders.specs.Exchanges.{exchanged_steps}

-- elements with these outcomes
abbrev outcomes : List Outcome → ℕ → Outcome
outcomes os k = get_or os k Skipped

-- the memory that elements of a size of a register of these elements leave, in an order
abbrev left : ℕ → List ℕ → List Outcome → List ℕ → List ℕ → List ℕ
left size elements os order memory =
    (foldl (λ (s : State) (k : ℕ). stored size 0 k (outcomes os k) s) (state elements memory no_counts) order).memory

-- of four elements the first and the third have a byte
first_and_third : placed_of (outcomes (Placed 2 ∷ Skipped ∷ Placed 0 ∷ Discarded ∷ [])) 4 ≡ 0 ∷ 2 ∷ []
unfolding each
first_and_third = refl

-- 0x0102 at byte 2 and 0x0304 at byte 0: the same in either order, and the byte after them is as before
row_order : left 2 (258 ∷ 0 ∷ 772 ∷ []) (Placed 2 ∷ Skipped ∷ Placed 0 ∷ []) (0 ∷ 2 ∷ []) (9 ∷ 9 ∷ 9 ∷ 9 ∷ 9 ∷ []) ≡ 4 ∷ 3 ∷ 2 ∷ 1 ∷ 9 ∷ []
unfolding with_element line
row_order = refl

other_order : left 2 (258 ∷ 0 ∷ 772 ∷ []) (Placed 2 ∷ Skipped ∷ Placed 0 ∷ []) (2 ∷ 0 ∷ []) (9 ∷ 9 ∷ 9 ∷ 9 ∷ 9 ∷ []) ≡ 4 ∷ 3 ∷ 2 ∷ 1 ∷ 9 ∷ []
unfolding with_element line
other_order = refl

-- two elements at one byte, which is refusal 15: the last one written stays, so the order shows
one_then_two : left 1 (1 ∷ 2 ∷ []) (Placed 0 ∷ Placed 0 ∷ []) (0 ∷ 1 ∷ []) (9 ∷ []) ≡ 2 ∷ []
unfolding with_element line
one_then_two = refl

two_then_one : left 1 (1 ∷ 2 ∷ []) (Placed 0 ∷ Placed 0 ∷ []) (1 ∷ 0 ∷ []) (9 ∷ []) ≡ 1 ∷ []
unfolding with_element line
two_then_one = refl

-- a store of 0x0102 at byte 0 and one of the byte 7 at byte 1, which share the second byte of the first: exchanged, they leave another byte
word_then_byte : left 1 (7 ∷ []) (Placed 1 ∷ []) (0 ∷ []) (left 2 (258 ∷ []) (Placed 0 ∷ []) (0 ∷ []) (9 ∷ 9 ∷ [])) ≡ 2 ∷ 7 ∷ []
unfolding with_element line
word_then_byte = refl

byte_then_word : left 2 (258 ∷ []) (Placed 0 ∷ []) (0 ∷ []) (left 1 (7 ∷ []) (Placed 1 ∷ []) (0 ∷ []) (9 ∷ 9 ∷ [])) ≡ 2 ∷ 1 ∷ []
unfolding with_element line
byte_then_word = refl

-- steps 1 and 2 of four, exchanged
middle_two : (a b c d : Cell) → exchanged_steps 1 (a ∷ b ∷ c ∷ d ∷ []) ≡ a ∷ c ∷ b ∷ d ∷ []
middle_two a b c d = refl

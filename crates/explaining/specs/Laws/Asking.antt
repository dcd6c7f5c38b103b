-- An element of a step, asked for by its number.
use Rattle.std.specs.Prelude.{ℕ, ◌/◌, ◌%◌, ◌^◌, ◌<◌, ◌≤◌, ◌≡◌, refl, List, [], leb, length, get_or}
use Rattle.std.proofs.Common.{◌∙◌, arith, lt-ltb, le-ltb, leb-false}
use Rattle.numbers.specs.Choice.{pick}
use Rattle.numbers.specs.Laws.Choice.{by_test}
use Rattle.outcomes.specs.declared.Explained.{Explained}
use Rattle.sheet.specs.declared.Sheet.{Sheet}
use Rattle.addressing.specs.Rules.{elements_of, reached, indexed, located}
use Rattle.addressing.specs.declared.Access.{Access}
use Rattle.addressing.specs.declared.Indexed.TheVariants.{Index}
use Rattle.accesses.specs.Refusals.{element_outcome, access_refusal}
use Rattle.accesses.proofs.Laws.Accepted.{element_accepted}
use Rattle.accepted.specs.Elements.{of_access}
use Rattle.accepted.specs.Laws.Elements.{access_count, access_at, at_past}
use Rattle.explaining.specs.declared.Asked.TheVariants.{Nothing, Element}
use Rattle.explaining.specs.Elements.{explained, sheet_explained}
use Rattle.explaining.specs.Explaining.{nothing_explained, asked}

-- there is none past the last
pub asked_none : (xs : List Explained) (e : ℕ) → length xs ≤ e → asked xs e ≡ Nothing
unfolding asked pick
asked_none xs e h = rw (le-ltb e (length xs) h) refl

asked_some : (xs : List Explained) (e : ℕ) → e < length xs → asked xs e ≡ Element (get_or xs e nothing_explained)
unfolding asked pick
asked_some xs e h = rw (lt-ltb e (length xs) h) refl

module _ (a : Access) (e : ℕ) where
  pub access_past : elements_of a ≤ e → asked (of_access explained a) e ≡ Nothing
  access_past h = asked_none (of_access explained a) e (omega (arith, access_count explained a))

  pub access_asked : e < elements_of a → asked (of_access explained a) e ≡ Element (explained a e)
  access_asked h =
      asked_some (of_access explained a) e (omega (arith, access_count explained a)) ∙ rw (access_at explained a e nothing_explained h) refl

-- a step past the last has none
module _ (sh : Sheet) (len k : ℕ) where
  pub sheet_past : sh.steps ≤ k → (e : ℕ) → asked (sheet_explained sh len k) e ≡ Nothing
  sheet_past h e = rw (at_past (λ (n : ℕ). explained) sh len k h) (asked_none [] e (omega arith))

-- an element that is not refused has an index of 32 bits
reached_small : (a : Access) (i : ℕ) → (reached a i).refusal ≡ 0 → i < 2 ^ 32
unfolding reached pick
reached_small a i z = by_test (leb (2 ^ 32) i) (λ t. absurd (omega (arith, rw t at z))) (λ t. leb-false (2 ^ 32) i t)

pub index_small : (a : Access) → (access_refusal a).number ≡ 0 → (e : ℕ) → e < elements_of a → (i : ℕ) → indexed a (e / a.columns) (e % a.columns) ≡ Index i → i < 2 ^ 32
unfolding element_outcome located
index_small a h e l i q = reached_small a i (rw q at (element_accepted a h e l))

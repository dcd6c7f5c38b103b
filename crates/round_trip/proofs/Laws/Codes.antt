-- The numbers by which a sheet names a clamp mode, a reduce mode, a combine, a memory layout, a flag, an object and a view: from the name
-- and back, and from the number and back.
use Rattle.std.specs.Prelude.{ℕ, zero, suc, ◌+◌, ◌<◌, ◌≤◌, ◌≡◌, Bool, true, false, eqb}
use Rattle.std.proofs.Math.Path.{refl}
use Rattle.std.proofs.Common.{arith}
use borrow.Author.Tests.{ltb-true, ne_eqb, not-true}
use Rattle.numbers.specs.Choice.{pick}
use Rattle.numbers.specs.Laws.Choice.{by_place, pick_case}
use Rattle.sheet.specs.Sizes.{view_places}
use Rattle.sheet.specs.Editions.{object_is_zeros, no_object}
use Rattle.sheet.specs.Codes.{clamp_code, clamp_mode, reduce_code, reduce_mode, combine_code, combine_of, memory_layout_code, memory_layout, flag_code, none, object_code, object_of, viewing_code, viewing_of}
use Rattle.sheet_ranges.specs.Steps.{object_ok, viewing_ok}
use Rattle.sheet.specs.declared.ClampMode.{ClampMode}
use Rattle.sheet.specs.declared.ClampMode.TheVariants.{Undefined, Constant, ClampToEdge, Repeat, MirrorRepeat}
use Rattle.sheet.specs.declared.ReduceMode.{ReduceMode}
use Rattle.sheet.specs.declared.ReduceMode.TheVariants.{Row, Column, Both, TwoByTwo}
use Rattle.sheet.specs.declared.Combine.{Combine}
use Rattle.sheet.specs.declared.Combine.TheVariants.{Add, Min, Max, And, Or, Xor}
use Rattle.sheet.specs.declared.MemoryLayout.{MemoryLayout}
use Rattle.sheet.specs.declared.MemoryLayout.TheVariants.{RowMajor, ColumnMajor}
use Rattle.sheet.specs.declared.Object.{Object}
use Rattle.sheet.specs.declared.Object.TheVariants.{Kept, Zeros, Register}
use Rattle.sheet.specs.declared.Viewing.{Viewing}
use Rattle.sheet.specs.declared.Viewing.TheVariants.{Plain, Through}

-- P of each of the n numbers from low on
abbrev pub Each : (ℕ → Type 0) → ℕ → ℕ → Type 0
Each P low zero = Unit {0}
Each P low (suc n) = P low × Each P (low + 1) n

pub one_of : (P : ℕ → Type 0) (low n : ℕ) → Each P low n → (x : ℕ) → low ≤ x → x < low + n → P x
one_of P low zero f x h l = absurd (omega arith)
one_of P low (suc n) f x h l =
    by_place x low (λ q. rw q f.0) (λ q. one_of P (low + 1) n f.1 x (omega arith) (omega arith))

pub clamp_mode_of : (m : ClampMode) → clamp_mode (clamp_code m) ≡ m
unfolding clamp_mode pick
clamp_mode_of Undefined = refl
clamp_mode_of Constant = refl
clamp_mode_of ClampToEdge = refl
clamp_mode_of Repeat = refl
clamp_mode_of MirrorRepeat = refl

pub clamp_code_small : (m : ClampMode) → clamp_code m ≤ 4
clamp_code_small Undefined = omega arith
clamp_code_small Constant = omega arith
clamp_code_small ClampToEdge = omega arith
clamp_code_small Repeat = omega arith
clamp_code_small MirrorRepeat = omega arith

pub clamp_code_of : (x : ℕ) → x ≤ 4 → clamp_code (clamp_mode x) ≡ x
unfolding clamp_mode pick
clamp_code_of x h =
    one_of (λ (x : ℕ). clamp_code (clamp_mode x) ≡ x) 0 5 (refl, (refl, (refl, (refl, (refl, tt))))) x (omega arith) (omega arith)

pub reduce_mode_of : (m : ReduceMode) → reduce_mode (reduce_code m) ≡ m
unfolding reduce_mode pick
reduce_mode_of Row = refl
reduce_mode_of Column = refl
reduce_mode_of Both = refl
reduce_mode_of TwoByTwo = refl

pub reduce_code_between : (m : ReduceMode) → (1 ≤ reduce_code m) × (reduce_code m ≤ 4)
reduce_code_between Row = omega arith
reduce_code_between Column = omega arith
reduce_code_between Both = omega arith
reduce_code_between TwoByTwo = omega arith

pub reduce_code_of : (x : ℕ) → 1 ≤ x → x ≤ 4 → reduce_code (reduce_mode x) ≡ x
unfolding reduce_mode pick
reduce_code_of x h l =
    one_of (λ (x : ℕ). reduce_code (reduce_mode x) ≡ x) 1 4 (refl, (refl, (refl, (refl, tt)))) x h (omega arith)

pub combine_of_lem : (c : Combine) → combine_of (combine_code c) ≡ c
unfolding combine_of pick
combine_of_lem Add = refl
combine_of_lem Min = refl
combine_of_lem Max = refl
combine_of_lem And = refl
combine_of_lem Or = refl
combine_of_lem Xor = refl

pub combine_code_small : (c : Combine) → combine_code c ≤ 5
combine_code_small Add = omega arith
combine_code_small Min = omega arith
combine_code_small Max = omega arith
combine_code_small And = omega arith
combine_code_small Or = omega arith
combine_code_small Xor = omega arith

pub combine_code_of : (x : ℕ) → x ≤ 5 → combine_code (combine_of x) ≡ x
unfolding combine_of pick
combine_code_of x h =
    one_of (λ (x : ℕ). combine_code (combine_of x) ≡ x) 0 6 (refl, (refl, (refl, (refl, (refl, (refl, tt)))))) x (omega arith) (omega arith)

pub memory_layout_of : (l : MemoryLayout) → memory_layout (memory_layout_code l) ≡ l
unfolding memory_layout pick
memory_layout_of RowMajor = refl
memory_layout_of ColumnMajor = refl

pub memory_layout_code_small : (l : MemoryLayout) → memory_layout_code l ≤ 1
memory_layout_code_small RowMajor = omega arith
memory_layout_code_small ColumnMajor = omega arith

pub memory_layout_code_of : (x : ℕ) → x ≤ 1 → memory_layout_code (memory_layout x) ≡ x
unfolding memory_layout pick
memory_layout_code_of x h =
    one_of (λ (x : ℕ). memory_layout_code (memory_layout x) ≡ x) 0 2 (refl, (refl, tt)) x (omega arith) (omega arith)

pub flag_of : (b : Bool) → eqb (flag_code b) 1 ≡ b
unfolding flag_code pick
flag_of true = refl
flag_of false = refl

pub flag_code_small : (b : Bool) → flag_code b ≤ 1
unfolding flag_code pick
flag_code_small true = omega arith
flag_code_small false = omega arith

pub flag_code_of : (x : ℕ) → x ≤ 1 → flag_code (eqb x 1) ≡ x
unfolding flag_code pick
flag_code_of x h = one_of (λ (x : ℕ). flag_code (eqb x 1) ≡ x) 0 2 (refl, (refl, tt)) x (omega arith) (omega arith)

-- no register and no view has the number that stands for none
module _ (edition : ℕ) where
  pub object_of_lem : (o : Object) → object_ok edition o ≡ true → object_of (no_object edition) (object_code o) ≡ o
  unfolding object_of no_object pick
  object_of_lem Kept e = rw (not-true (object_is_zeros edition) e)
  object_of_lem Zeros e = rw e
  object_of_lem (Register register) e = rw (ne_eqb register none (λ q. omega (arith, ltb-true register 4 e)))

  pub object_code_small : (o : Object) → object_ok edition o ≡ true → object_code o < 256
  object_code_small Kept e = omega arith
  object_code_small Zeros e = omega arith
  object_code_small (Register register) e = omega (arith, ltb-true register 4 e)

  -- what no object means is written as none
  no_object_code : object_code (no_object edition) ≡ none
  unfolding no_object
  no_object_code = pick_case (λ (o : Object). object_code o ≡ none) (object_is_zeros edition) Zeros Kept (λ q. refl) (λ q. refl)

  pub object_code_of : (x : ℕ) → object_code (object_of (no_object edition) x) ≡ x
  unfolding object_of pick
  object_code_of x = by_place x none (λ q. rw q no_object_code) (λ q. rw (ne_eqb x none q))

module _ (views : ℕ) (few : views ≤ view_places) where
  pub viewing_of_lem : (v : Viewing) → viewing_ok views v ≡ true → viewing_of (viewing_code v) ≡ v
  unfolding viewing_of pick
  viewing_of_lem Plain e = refl
  viewing_of_lem (Through view) e = rw (ne_eqb view none (λ q. omega (arith, ltb-true view views e)))

  pub viewing_code_small : (v : Viewing) → viewing_ok views v ≡ true → viewing_code v < 256
  viewing_code_small Plain e = omega arith
  viewing_code_small (Through view) e = omega (arith, ltb-true view views e)

pub viewing_code_of : (x : ℕ) → viewing_code (viewing_of x) ≡ x
unfolding viewing_of pick
viewing_code_of x = by_place x none (λ q. rw q) (λ q. rw (ne_eqb x none q))

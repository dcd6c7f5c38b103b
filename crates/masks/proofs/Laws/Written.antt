-- Masks as the code writes them: words and a count, one mask after the other, and zeros for the empty ones.
use Prim.Native.Nat.{ℕ, zero, suc, ◌+◌, ◌-◌, ◌*◌, ◌≤◌, zero-le}
use Rattle.std.specs.Prelude.{◌≡◌, List, [], ◌∷◌, ◌++◌, length}
use Rattle.std.proofs.Math.Path.{refl, ap}
use Rattle.std.proofs.Common.{sym, ◌∙◌, zero-add, add-one, replicate, append_assoc}
use Rattle.std.proofs.lemmas.Grind.{replicate_next}
use Rattle.std.proofs.lemmas.List.{length-replicate}
use Rattle.std.proofs.lemmas.List.Edits.{paste_all, sets-eq}
use Rattle.std.proofs.lemmas.Slice.{put_mid-paste}
use borrow.Rule.Slice.PartMut.{put_mid}
use native.Mathlib.Omega.{arith}
use Rattle.std.specs.Int.Count.{ones}
use Rattle.std.proofs.Math.ListN.{length-append}
use Rattle.std.proofs.lemmas.List.Edits.{sets}
use Rattle.numbers.specs.Lists.{each}
use Rattle.numbers.specs.Little.{u16_bytes, u32_bytes}
use Rattle.numbers.specs.Laws.Joins.{each_same, each_join, length_each}
use Rattle.numbers.specs.Laws.Lists.{each_more, puts_after}
use Rattle.sheet.specs.Sizes.{matrix_places}
use Rattle.outcomes.specs.declared.Outcome.{Outcome}
use Rattle.masks.specs.Masks.{bit_bytes, mask_bytes, bit_of, packed, sum_of, bit_byte, mask_of, masks_of, mask_place}
use Rattle.masks.specs.Entries.{entry_bit, empty_masks}
use Rattle.masks.proofs.Laws.Packed.{Bits, sum_none, packed_ones, packed_zeros, word_bytes}
use Rattle.masks.proofs.Laws.Bits.{no_bits, sum_past, entry_past}

-- ---- a step's bits, word by word

module _ (bit : ℕ → ℕ) where
  abbrev pub bits : ℕ → List ℕ
  bits n = each n (bit_byte bit)

  pub length_bits : (n : ℕ) → length (bits n) ≡ n
  length_bits n = length_each 1 n (bit_byte bit) (λ k h. refl) ∙ omega arith

  pub bits_none : (masks : List ℕ) (at : ℕ) → masks ≡ sets masks at (bits 0)
  unfolding each
  bits_none masks at = refl

  pub length_mask : length (mask_of bit) ≡ mask_bytes
  unfolding mask_of
  length_mask = length-append (bits bit_bytes) (u16_bytes (sum_of bit matrix_places)) ∙ ap (λ (n : ℕ). n + 2) (length_bits bit_bytes)

  -- a step's mask: its bits, then its count
  pub mask_written : (masks : List ℕ) (at : ℕ) {out after : List ℕ} {count : ℕ} → out ≡ sets masks at (bits bit_bytes) → count ≡ sum_of bit matrix_places
      → after ≡ sets out (at + bit_bytes) (u16_bytes count) → after ≡ sets masks at (mask_of bit)
  unfolding mask_of
  mask_written masks at e f g =
      puts_after masks at (bits bit_bytes) (u16_bytes (sum_of bit matrix_places)) e (rw (length_bits bit_bytes) (rw f at g))

  module _ (b : Bits bit) where
    pub sum_most : (n : ℕ) → sum_of bit n ≤ n
    unfolding sum_of
    sum_most zero = omega arith
    sum_most (suc n) = omega (arith, sum_most n, b n)

    -- word i is four bytes more
    word_bits : (i : ℕ) → bits ((i + 1) * 4) ≡ bits (i * 4) ++ u32_bytes (packed bit (i * 32) 32)
    unfolding each
    word_bits i =
        let e : (i + 1) * 4 ≡ i * 4 + 4 = omega arith in
        let e₀ : 8 * (i * 4 + 0) ≡ i * 32 = omega arith in
        let e₁ : 8 * (i * 4 + 1) ≡ i * 32 + 8 = omega arith in
        let e₂ : 8 * (i * 4 + 2) ≡ i * 32 + 16 = omega arith in
        let e₃ : 8 * (i * 4 + 3) ≡ i * 32 + 16 + 8 = omega arith in
        rw (e, each_join (i * 4) 4 (bit_byte bit), word_bytes bit b (i * 32), e₀, e₁, e₂, e₃) refl

    module _ (i : ℕ) {word : ℕ} (e : word ≡ packed bit (i * 32) 32) where
      pub word_counted : {sum : ℕ} → sum ≡ sum_of bit (i * 32) → sum + ones word ≡ sum_of bit ((i + 1) * 32)
      word_counted p =
          let f : (i + 1) * 32 ≡ i * 32 + 32 = omega arith in
          rw (p, e, f) (packed_ones bit b (i * 32) 32)

      pub word_written : (masks : List ℕ) (at : ℕ) {out after : List ℕ} → out ≡ sets masks at (bits (i * 4)) → after ≡ sets out (at + i * 4) (u32_bytes word)
          → after ≡ sets masks at (bits ((i + 1) * 4))
      word_written masks at p q =
          rw (word_bits i) (puts_after masks at (bits (i * 4)) (u32_bytes (packed bit (i * 32) 32)) p (rw (length_bits (i * 4)) (rw e at q)))

-- ---- empty masks

-- n bytes of 0
abbrev pub zeros : ℕ → List ℕ
zeros n = each n (λ (i : ℕ). 0 ∷ [])

zeros_are : (n : ℕ) → replicate n 0 ≡ zeros n
unfolding each
zeros_are zero = refl
zeros_are (suc n) = rw (← zeros_are n) (rw add-one at (replicate_next {X = ℕ} n 0))

-- a part of the masks that is filled with 0
pub cleared : (masks part : List ℕ) (at n : ℕ) → at + n ≤ length masks → part ≡ replicate n 0 → put_mid at n masks part ≡ sets masks at (zeros n)
cleared masks part at n room e =
    let long : length part ≡ n = rw e (length-replicate n 0) in
    let set_all = rw long at (sets-eq part masks at (rw long room)) in
    rw (← zeros_are n, ← e)
    (put_mid-paste at n masks part part n refl refl (sym long) ∙ paste_all masks at part n (sym long) ∙ sym (set_all ∙ append_assoc _ part _))

two_zeros : 0 ∷ 0 ∷ [] ≡ zeros 2
unfolding each
two_zeros = refl

-- a mask of which no bit is set
module _ (bit : ℕ → ℕ) (none : (e : ℕ) → bit e ≡ 0) where
  unset_bits : each bit_bytes (bit_byte bit) ≡ zeros bit_bytes
  unset_bits = each_same bit_bytes (bit_byte bit) (λ (i : ℕ). 0 ∷ []) (λ k h. rw (packed_zeros bit (8 * k) 8 (λ e l. none e)))

  unset_sum : sum_of bit matrix_places ≡ 0
  unset_sum = sum_past bit 0 matrix_places (λ k h. none k) ∙ sum_none bit

  unset_mask : mask_of bit ≡ zeros mask_bytes
  unfolding mask_of
  unset_mask = rw (unset_sum, unset_bits, two_zeros) (sym (each_join bit_bytes 2 (λ (i : ℕ). 0 ∷ [])))

no_bit : (e : ℕ) → bit_of [] e ≡ 0
unfolding bit_of
no_bit e = refl

empty_bits : each bit_bytes (bit_byte (bit_of [])) ≡ zeros bit_bytes
empty_bits = unset_bits (bit_of []) no_bit

empty_mask : mask_of (bit_of []) ≡ zeros mask_bytes
unfolding mask_of
empty_mask = rw (no_bits matrix_places, empty_bits, two_zeros) (sym (each_join bit_bytes 2 (λ (i : ℕ). 0 ∷ [])))

pub empty_masks_lem : (n : ℕ) → zeros (n * mask_bytes) ≡ empty_masks n
unfolding each
empty_masks_lem zero = refl
empty_masks_lem (suc n) =
    let e : suc n * mask_bytes ≡ n * mask_bytes + mask_bytes = omega arith in
    rw (e, each_join {B = ℕ} (n * mask_bytes) mask_bytes (λ (i : ℕ). 0 ∷ []), empty_masks_lem n, empty_mask) refl

-- one of them
pub one_empty : (step : ℕ) → empty_masks (step + 1 - step) ≡ mask_of (bit_of [])
one_empty step =
    let e : step + 1 - step ≡ 1 = omega arith in
    rw e (sym (empty_masks_lem 1) ∙ sym empty_mask)

-- the mask of a step whose survey has no entries
pub none_written : (entries : List ℕ) (step : ℕ) → empty_masks (step + 1 - step) ≡ mask_of (entry_bit entries 0)
none_written entries step = one_empty step ∙ empty_mask ∙ sym (unset_mask (entry_bit entries 0) (λ k. entry_past entries 0 k zero-le))

-- ---- one mask after the other

module _ (os : ℕ → List Outcome) where
  pub length_masks : (n : ℕ) → length (masks_of os n) ≡ n * mask_bytes
  length_masks n = length_each mask_bytes n _ (λ k h. length_mask (bit_of (os k)))

  pub masks_none : (masks : List ℕ) → masks ≡ sets masks 0 (masks_of os 0)
  unfolding each
  masks_none masks = refl

  -- the masks of n steps, and the next
  pub masks_next : (masks : List ℕ) (n : ℕ) {out after : List ℕ} → out ≡ sets masks 0 (masks_of os n) → after ≡ sets out (mask_place n) (mask_of (bit_of (os n)))
      → after ≡ sets masks 0 (masks_of os (n + 1))
  masks_next masks n e f =
      rw (each_more n (λ (s : ℕ). mask_of (bit_of (os s))))
      (puts_after masks 0 (masks_of os n) (mask_of (bit_of (os n))) e (rw (length_masks n, zero-add (n * mask_bytes)) f))

  -- and m more, of steps without outcomes
  pub masks_rest : (masks : List ℕ) (n m : ℕ) {out after : List ℕ} → ((s : ℕ) → n ≤ s → os s ≡ []) → out ≡ sets masks 0 (masks_of os n)
      → after ≡ sets out (mask_place n) (empty_masks m) → after ≡ sets masks 0 (masks_of os (n + m))
  masks_rest masks n m h e f =
      let same = each_same m (λ (s : ℕ). mask_of (bit_of (os (n + s)))) (λ (s : ℕ). mask_of (bit_of [])) (λ s l. ap (λ (x : List Outcome). mask_of (bit_of x)) (h (n + s) (omega arith))) in
      rw (each_join n m (λ (s : ℕ). mask_of (bit_of (os s))), same)
      (puts_after masks 0 (masks_of os n) (empty_masks m) e (rw (length_masks n, zero-add (n * mask_bytes)) f))

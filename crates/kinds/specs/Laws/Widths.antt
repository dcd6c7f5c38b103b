-- Laws of the width and of the bytes of an element, for the layers above.
use Rattle.std.specs.Prelude.{◌≡◌, refl, true, ◌⊎◌, ℕ, ◌*◌, ◌/◌, ◌≤◌, ltb}
use Rattle.std.proofs.Common.{inl, inr, arith, le-ltb}
use Rattle.numbers.specs.Choice.{pick}
use Rattle.numbers.specs.Laws.Choice.{pick_case, between_low}
use Rattle.kinds.specs.Widths.{word_kind, width, bytes_of}

-- an element has 1, 2 or 4 bytes
abbrev pub ElementSize : ℕ → Type 0
ElementSize size = (size ≡ 1) ⊎ ((size ≡ 2) ⊎ (size ≡ 4))

-- what holds of the three widths holds of a kind's
pub width_case : (kind : ℕ) (P : ℕ → Type 0) → P 8 → P 16 → P 32 → P (width kind)
unfolding width
width_case kind P a b d = pick_case P (ltb kind 2) _ _ (λ e. a) (λ e. pick_case P (ltb kind 4) _ _ (λ f. b) (λ f. d))

pub width_le : (kind : ℕ) → width kind ≤ 32
width_le kind = width_case kind (λ (w : ℕ). w ≤ 32) (omega arith) (omega arith) (omega arith)

pub word_width : (kind : ℕ) → word_kind kind ≡ true → width kind ≡ 32
unfolding width pick
word_width kind e =
    let h = between_low 4 5 kind e in
    rw (le-ltb kind 2 (omega arith), le-ltb kind 4 h)

pub bytes_size : (kind : ℕ) → ElementSize (bytes_of kind)
unfolding bytes_of
bytes_size kind = width_case kind (λ (w : ℕ). ElementSize (w / 8)) (inl refl) (inr (inl refl)) (inr (inr refl))

pub bytes_low : (kind : ℕ) → 1 ≤ bytes_of kind
unfolding bytes_of
bytes_low kind = width_case kind (λ (w : ℕ). 1 ≤ w / 8) (omega arith) (omega arith) (omega arith)

pub bytes_high : (kind : ℕ) → bytes_of kind ≤ 4
unfolding bytes_of
bytes_high kind = width_case kind (λ (w : ℕ). w / 8 ≤ 4) (omega arith) (omega arith) (omega arith)

-- the bytes of an element hold its bits
pub width_bytes : (kind : ℕ) → 8 * bytes_of kind ≡ width kind
unfolding bytes_of
width_bytes kind = width_case kind (λ (w : ℕ). 8 * (w / 8) ≡ w) refl refl refl

-- What reading and writing elements keep and give.
use Rattle.std.specs.Prelude.{◌≡◌, refl, ◌≢◌, List, ℕ, zero, suc, ◌+◌, ◌*◌, ◌<◌, ◌≤◌, ◌/◌, ◌%◌, ◌^◌, length, get_or}
use Rattle.std.proofs.Common.{sym, ap, ap₂, ◌∙◌, mod-lt, mul-le-mul_right, arith, pow-add}
use Rattle.std.proofs.Math.Nat.{mod-one}
use Rattle.std.proofs.lemmas.Nat.{mod-pow-add}
use Rattle.numbers.specs.Lists.{line}
use Rattle.numbers.specs.Laws.Lists.{length_line}
use Rattle.numbers.specs.Laws.Lines.{line_outside, line_inside, lines_apart}
use Rattle.numbers.specs.Bytes.{AreBytes}
use Rattle.numbers.specs.Laws.Bytes.{line_bytes}
use Rattle.memory.specs.Elements.{element_at, byte_of, with_element}

pub length_with : (memory : List ℕ) (byte size x : ℕ) → length (with_element memory byte size x) ≡ length memory
unfolding with_element
length_with memory byte size x = length_line memory byte (byte_of x) size

-- what is written are bytes
pub with_bytes : (memory : List ℕ) (byte size x : ℕ) → AreBytes memory → AreBytes (with_element memory byte size x)
unfolding with_element
with_bytes memory byte size x b = line_bytes memory byte (byte_of x) size b (λ i. mod-lt (x / 2 ^ (8 * i)) (omega arith))

-- one more byte
power_more : (n : ℕ) → 2 ^ (8 * suc n) ≡ 2 ^ 8 * 2 ^ (8 * n)
power_more n = let e : 8 * suc n ≡ 8 + 8 * n = omega arith in ap (λ (k : ℕ). 2 ^ k) e ∙ pow-add 2 8 (8 * n)

-- an element of bytes is below 2 to its bits
pub element_lt : (memory : List ℕ) (byte size : ℕ) → ((k : ℕ) → get_or memory k 0 < 256) → element_at memory byte size < 2 ^ (8 * size)
unfolding element_at
element_lt memory byte zero h = omega arith
element_lt memory byte (suc n) h =
    let low : element_at memory byte n < 2 ^ (8 * n) = element_lt memory byte n h in
    let top : get_or memory (byte + n) 0 * 2 ^ (8 * n) ≤ 255 * 2 ^ (8 * n) = mul-le-mul_right (2 ^ (8 * n)) (omega (arith, h (byte + n))) in
    rw (power_more n) (omega arith)

-- a byte outside those written is as before
pub with_outside : (memory : List ℕ) (byte size x k : ℕ) → ((i : ℕ) → i < size → k ≢ byte + i) → get_or (with_element memory byte size x) k 0 ≡ get_or memory k 0
unfolding with_element
with_outside memory byte size x k h = line_outside memory byte (byte_of x) size k 0 h

-- lists that agree on an element's bytes have the same element
pub element_same : (a b : List ℕ) (byte size : ℕ) → ((i : ℕ) → i < size → get_or a (byte + i) 0 ≡ get_or b (byte + i) 0) → element_at a byte size ≡ element_at b byte size
unfolding element_at
element_same a b byte zero h = refl
element_same a b byte (suc n) h =
    ap₂ (λ (x y : ℕ). x * 2 ^ (8 * n) + y) (h n (omega arith)) (element_same a b byte n (λ i l. h i (omega arith)))

-- the bytes of x, put together again
bytes_of : (d : List ℕ) (byte n x : ℕ) → ((i : ℕ) → i < n → get_or d (byte + i) 0 ≡ byte_of x i) → element_at d byte n ≡ x % 2 ^ (8 * n)
unfolding element_at
bytes_of d byte zero x h = sym (mod-one x)
bytes_of d byte (suc n) x h =
    let e : 8 * suc n ≡ 8 + 8 * n = omega arith in
    ap₂ (λ (a b : ℕ). a * 2 ^ (8 * n) + b) (h n (omega arith)) (bytes_of d byte n x (λ i l. h i (omega arith)))
    ∙ sym (ap (λ (k : ℕ). x % 2 ^ k) e ∙ mod-pow-add x 8 (8 * n))

-- what was written is read back
pub read_back : (memory : List ℕ) (byte size x : ℕ) → byte + size ≤ length memory → element_at (with_element memory byte size x) byte size ≡ x % 2 ^ (8 * size)
unfolding with_element
read_back memory byte size x h =
    bytes_of (line memory byte (byte_of x) size) byte size x (λ i l. line_inside memory byte (byte_of x) size i 0 l h)

-- an element apart from the one written is as before
pub read_apart : (memory : List ℕ) (byte size x at n : ℕ) → ((i j : ℕ) → i < size → j < n → byte + i ≢ at + j)
    → element_at (with_element memory byte size x) at n ≡ element_at memory at n
read_apart memory byte size x at n h =
    element_same (with_element memory byte size x) memory at n (λ j l. with_outside memory byte size x (at + j) (λ i k e. h i j k l (sym e)))

-- two elements apart may be written in either order
pub withs_apart : (memory : List ℕ) (a m x b n y : ℕ) → ((i j : ℕ) → i < m → j < n → a + i ≢ b + j)
    → with_element (with_element memory a m x) b n y ≡ with_element (with_element memory b n y) a m x
unfolding with_element
withs_apart memory a m x b n y h = lines_apart memory a b (byte_of x) (byte_of y) m n h

-- Stretches of bytes in a list of bytes: where they stand, and the little-endian numbers in them.
use Prim.Native.Nat.{ℕ, zero, suc, ◌+◌, ◌*◌, ◌/◌, ◌%◌, ◌<◌}
use Rattle.std.specs.Prelude.{◌≡◌, List, [], ◌∷◌, ◌++◌, length, get_or}
use Rattle.std.proofs.Common.{sym, ◌∙◌, zero-add, add-zero, add_comm, not-suc-le-zero, div-add-mod', add-one, arith, ext_get_or}
use Rattle.std.proofs.Math.Nat.{add_assoc}
use Rattle.numbers.specs.Little.{u16_at, u32_at, u16_bytes, u32_bytes}
use Rattle.numbers.specs.Lists.{each}
use Rattle.numbers.specs.Laws.Joins.{length_each}
use Rattle.numbers.specs.Laws.Choice.{by_place}
use Rattle.numbers.specs.Bytes.{AreBytes}
use Rattle.numbers.specs.Laws.Bytes.{byte_at}

-- the bytes bs stand in s from p + i on
abbrev pub Has : List ℕ → ℕ → ℕ → List ℕ → Type 0
Has s p i [] = Unit {0}
Has s p i (x ∷ bs) = (get_or s (p + i) 0 ≡ x) × Has s p (i + 1) bs

module _ (s : List ℕ) (p : ℕ) where
  pub has_shift : (i j : ℕ) (bs : List ℕ) → Has s p (i + j) bs → Has s (p + i) j bs
  has_shift i j [] h = tt
  has_shift i j (x ∷ bs) h = (rw add_assoc h.0, has_shift i (j + 1) bs (rw add_assoc at h.1))

  pub has_back : (i j : ℕ) (bs : List ℕ) → Has s (p + i) j bs → Has s p (i + j) bs
  has_back i j [] h = tt
  has_back i j (x ∷ bs) h = (rw add_assoc at h.0, rw add_assoc (has_back i (j + 1) bs h.1))

  pub has_left : (i : ℕ) (a b : List ℕ) → Has s p i (a ++ b) → Has s p i a
  has_left i [] b h = tt
  has_left i (x ∷ a) b h = (h.0, has_left (i + 1) a b h.1)

  has_rest : (i : ℕ) (a b : List ℕ) → Has s p i (a ++ b) → Has s p (i + length a) b
  has_rest i [] b h = rw add-zero h
  has_rest i (x ∷ a) b h =
      let e : i + suc (length a) ≡ i + 1 + length a = omega arith in
      rw e (has_rest (i + 1) a b h.1)

  pub has_append : (i : ℕ) (a b : List ℕ) → Has s p i a → Has s p (i + length a) b → Has s p i (a ++ b)
  has_append i [] b h g = rw add-zero at g
  has_append i (x ∷ a) b h g =
      let e : i + suc (length a) ≡ i + 1 + length a = omega arith in
      (h.0, has_append (i + 1) a b h.1 (rw e at g))

  -- two stretches, one after the other
  pub has_right : (a b : List ℕ) → Has s p 0 (a ++ b) → Has s (p + length a) 0 b
  has_right a b h = has_shift (length a) 0 b (rw (add-zero (length a), ← zero-add (length a)) (has_rest 0 a b h))

  pub has_join : (a b : List ℕ) → Has s p 0 a → Has s (p + length a) 0 b → Has s p 0 (a ++ b)
  has_join a b h g = has_append 0 a b h (rw (zero-add (length a), ← add-zero (length a)) (has_back (length a) 0 b g))

  -- stretches joined one after the other
  pub has_each_at : (n : ℕ) (f : ℕ → List ℕ) → Has s p 0 (each n f) → (k : ℕ) → k < n → Has s (p + length (each k f)) 0 (f k)
  unfolding each
  has_each_at zero f h k l = absurd (not-suc-le-zero l)
  has_each_at (suc n) f h k l =
      by_place k n (λ q. rw q (has_right (each n f) (f n) h))
      (λ q. has_each_at n f (has_left 0 (each n f) (f n) h) k (omega arith))

  pub has_each : (n : ℕ) (f : ℕ → List ℕ) → ((k : ℕ) → k < n → Has s (p + length (each k f)) 0 (f k)) → Has s p 0 (each n f)
  unfolding each
  has_each zero f h = tt
  has_each (suc n) f h = has_join (each n f) (f n) (has_each n f (λ k l. h k (omega arith))) (h n (omega arith))

pub has_at : (s : List ℕ) (p q : ℕ) (bs : List ℕ) → p ≡ q → Has s p 0 bs → Has s q 0 bs
has_at s p q bs e h = rw e at h

-- stretches of one length: the k-th stands k lengths further on
module _ (s : List ℕ) (p w n : ℕ) (f : ℕ → List ℕ) (e : (k : ℕ) → k < n → length (f k) ≡ w) where
  before : (k : ℕ) → k < n → length (each k f) ≡ k * w
  before k l = length_each w k f (λ j m. e j (omega arith))

  pub has_rows_at : Has s p 0 (each n f) → (k : ℕ) → k < n → Has s (p + k * w) 0 (f k)
  has_rows_at h k l = rw (before k l) at (has_each_at s p n f h k l)

  pub has_rows : ((k : ℕ) → k < n → Has s (p + k * w) 0 (f k)) → Has s p 0 (each n f)
  has_rows h = has_each s p n f (λ k l. rw (before k l) (h k l))

-- what stands in one list stands in another that is the same in those places
pub has_same : (s t : List ℕ) (p i : ℕ) (bs : List ℕ) → ((k : ℕ) → k < p + i + length bs → get_or s k 0 ≡ get_or t k 0) → Has s p i bs → Has t p i bs
has_same s t p i [] e h = tt
has_same s t p i (x ∷ bs) e h =
    (sym (e (p + i) (omega arith)) ∙ h.0, has_same s t p (i + 1) bs (λ k l. e k (omega arith)) h.1)

-- a list's bytes stand at its start, and a list of that length with those bytes is that list
has_self_from : (s : List ℕ) (i : ℕ) (bs : List ℕ) → ((k : ℕ) → get_or s (i + k) 0 ≡ get_or bs k 0) → Has s 0 i bs
has_self_from s i [] e = tt
has_self_from s i (x ∷ bs) e =
    (rw (zero-add i, ← add-zero i) (e 0), has_self_from s (i + 1) bs (λ k. rw (add_assoc i 1 k, add_comm 1 k, add-one k) (e (suc k))))

pub has_self : (s : List ℕ) → Has s 0 0 s
has_self s = has_self_from s 0 s (λ k. rw zero-add)

has_get : (s : List ℕ) (i : ℕ) (bs : List ℕ) → Has s 0 i bs → (k : ℕ) → k < length bs → get_or s (i + k) 0 ≡ get_or bs k 0
has_get s i [] h k l = absurd (not-suc-le-zero l)
has_get s i (x ∷ bs) h zero l = rw (add-zero i, ← zero-add i) h.0
has_get s i (x ∷ bs) h (suc k) l =
    let e : i + suc k ≡ i + 1 + k = omega arith in
    rw e (has_get s (i + 1) bs h.1 k (omega arith))

pub has_all : (s bs : List ℕ) → length s ≡ length bs → Has s 0 0 bs → bs ≡ s
has_all s bs e h = sym (ext_get_or 0 s bs e (λ k l. rw zero-add at (has_get s 0 bs h k (omega arith))))

-- a number from its bytes
pub u16_of : (s : List ℕ) (p i x : ℕ) → get_or s (p + i) 0 ≡ x % 256 → get_or s (p + (i + 1)) 0 ≡ x / 256 → u16_at s (p + i) ≡ x
unfolding u16_at
u16_of s p i x a b = rw (a, add_assoc p i 1, b) (omega (arith, div-add-mod' x 256))

pub u32_of : (s : List ℕ) (p i x : ℕ) (bs : List ℕ) → Has s p i (u32_bytes x ++ bs) → u32_at s (p + i) ≡ x
unfolding u32_at
u32_of s p i x bs h =
    let e = rw (add_assoc i 1 1) at h.1.1 in
    rw (u16_of s p i (x % 65536) h.0 h.1.0, add_assoc p i 2, u16_of s p (i + 2) (x / 65536) e.0 e.1.0)
    (omega (arith, div-add-mod' x 65536))

-- the bytes of a number that was read
module _ (s : List ℕ) (b : AreBytes s) where
  pub low_at : (p i : ℕ) → get_or s (p + i) 0 ≡ u16_at s (p + i) % 256
  unfolding u16_at
  low_at p i = omega (arith, byte_at s b (p + i))

  pub high_at : (p i : ℕ) → get_or s (p + (i + 1)) 0 ≡ u16_at s (p + i) / 256
  unfolding u16_at
  high_at p i = rw (← add_assoc p i 1) (omega (arith, byte_at s b (p + i)))

  pub u16_below : (p : ℕ) → u16_at s p < 65536
  unfolding u16_at
  u16_below p = omega (arith, byte_at s b p, byte_at s b (p + 1))

  pub u32_below : (p : ℕ) → u32_at s p < 4294967296
  unfolding u32_at
  u32_below p = omega (arith, u16_below p, u16_below (p + 2))

  pub has_u16 : (p i : ℕ) → Has s p i (u16_bytes (u16_at s (p + i)))
  has_u16 p i = (low_at p i, (high_at p i, tt))

  pub has_u32 : (p i : ℕ) → Has s p i (u32_bytes (u32_at s (p + i)))
  unfolding u32_at
  has_u32 p i =
      let l : u32_at s (p + i) % 65536 ≡ u16_at s (p + i) = omega (arith, u16_below (p + i)) in
      let h : u32_at s (p + i) / 65536 ≡ u16_at s (p + i + 2) = omega (arith, u16_below (p + i)) in
      rw (l, h, add_assoc p i 2) (low_at p i, (high_at p i, rw (add_assoc i 1 1) (has_u16 p (i + 2))))

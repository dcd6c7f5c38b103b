-- Elements of 1, 2 and 4 bytes as the stores and reads of numbers give them.
pub mod Elements
use mathlib.Core.Path.{◌≡◌, sym, ◌∙◌}
use mathlib.Core.Logic.{⊎_elim}
use mathlib.Core.List.{List}
use Prim.Native.Nat.{ℕ, suc, ◌+◌, ◌/◌, ◌<◌, ◌≤◌, ◌%◌, ◌^◌}
use native.Mathlib.Omega.{arith}
use lib.ListN.{get_or, set}
use lib.Seq.{sets}
use lib.Pow.{shr-shr, shr_mod}
use Rattle.numbers.specs.Lists.{line}
use Rattle.numbers.specs.Little.{u16_at, u32_at, u16_bytes, u32_bytes}
use Rattle.kinds.specs.Laws.Widths.{ElementSize}
use Rattle.memory.specs.Elements.{element_at, byte_of, with_element}

pub one : {size : ℕ} → ElementSize size → size < 2 → size ≡ 1
one s h = ⊎_elim (λ e. e) (λ t. ⊎_elim (λ e. absurd (omega arith)) (λ e. absurd (omega arith)) t) s

pub four : {size : ℕ} → ElementSize size → 3 ≤ size → size ≡ 4
four s h = ⊎_elim (λ e. absurd (omega arith)) (λ t. ⊎_elim (λ e. absurd (omega arith)) (λ e. e) t) s

pub element_1 : (m : List ℕ) (b : ℕ) {size : ℕ} → size ≡ 1 → get_or m b 0 ≡ element_at m b size
unfolding element_at
element_1 m b e = let z : b + 0 ≡ b = omega arith in rw (e, z) (omega arith)

pub element_2 : (m : List ℕ) (b : ℕ) {size : ℕ} → size ≡ 2 → u16_at m b ≡ element_at m b size
unfolding element_at u16_at
element_2 m b e = let z : b + 0 ≡ b = omega arith in rw (e, z) (omega arith)

pub element_4 : (m : List ℕ) (b : ℕ) {size : ℕ} → size ≡ 4 → u32_at m b ≡ element_at m b size
unfolding element_at u16_at u32_at
element_4 m b e =
    let z : b + 0 ≡ b = omega arith in
    let t : b + 2 + 1 ≡ b + 3 = omega arith in
    rw (e, z, t) (omega arith)

pub with_1 : (m : List ℕ) (b x : ℕ) {size : ℕ} → size ≡ 1 → set m b (x % 256) ≡ with_element m b size x
unfolding with_element line
with_1 m b x e =
    let p0 : b ≡ b + 0 = omega arith in
    let v0 : x % 256 ≡ byte_of x 0 = omega arith in
    rw e (λ i. set m (p0 i) (v0 i))

pub with_2 : (m : List ℕ) (b x : ℕ) {size : ℕ} → size ≡ 2 → sets m b (u16_bytes (x % 65536)) ≡ with_element m b size x
unfolding with_element line
with_2 m b x e =
    let p0 : b ≡ b + 0 = omega arith in
    let v0 : x % 65536 % 256 ≡ byte_of x 0 = omega arith in
    let p1 : suc b ≡ b + 1 = omega arith in
    let v1 : x % 65536 / 256 ≡ byte_of x 1 = omega arith in
    rw e (λ i. set (set m (p0 i) (v0 i)) (p1 i) (v1 i))

pub with_4 : (m : List ℕ) (b x : ℕ) {size : ℕ} → size ≡ 4 → x < 2 ^ 32 → sets m b (u32_bytes x) ≡ with_element m b size x
unfolding with_element line
with_4 m b x e h =
    let p0 : b ≡ b + 0 = omega arith in
    let v0 : x % 65536 % 256 ≡ byte_of x 0 = omega arith in
    let p1 : suc b ≡ b + 1 = omega arith in
    let v1 : x % 65536 / 256 ≡ byte_of x 1 = omega arith in
    let p2 : suc (suc b) ≡ b + 2 = omega arith in
    let v2 : x / 65536 % 256 ≡ byte_of x 2 = omega arith in
    let p3 : suc (suc (suc b)) ≡ b + 3 = omega arith in
    let v3 : x / 65536 / 256 ≡ byte_of x 3 = shr-shr x 16 8 ∙ sym (shr_mod 8 24 h) in
    rw e (λ i. set (set (set (set m (p0 i) (v0 i)) (p1 i) (v1 i)) (p2 i) (v2 i)) (p3 i) (v3 i))

-- Laws of `each`, lists joined one after the other: alike, with one more, how long, in two parts, and what stands where.
use Prim.Native.Nat.{ℕ, zero, suc, ◌+◌, ◌*◌, ◌<◌, ◌≤◌}
use Rattle.std.specs.Prelude.{◌≡◌, List, [], ◌∷◌, ◌++◌, length, get_or, set}
use Rattle.std.proofs.Math.Path.{refl}
use Rattle.std.proofs.Common.{sym, ◌∙◌, append_assoc, append-nil, add-zero, mul-le-mul_right, not-suc-le-zero, get_or-set_same, get_or-set_other, get_or-append-add}
use Rattle.std.proofs.Math.Nat.{suc-mul}
use native.Mathlib.Omega.{arith}
use Rattle.std.proofs.Math.ListN.{length-append, get_or-append}
use Rattle.numbers.specs.Lists.{each}
use Rattle.numbers.specs.Laws.Choice.{by_order}
use Rattle.numbers.specs.Laws.Lists.{each_more}

module _ {B : Type 0} where
  pub each_same : (n : ℕ) (f g : ℕ → List B) → ((k : ℕ) → k < n → f k ≡ g k) → each n f ≡ each n g
  unfolding each
  each_same zero f g e = refl
  each_same (suc n) f g e = rw (each_same n f g (λ k l. e k (omega arith)), e n (omega arith))

  -- the lists of a list's elements, with one element more
  pub each_set : {A : Type 0} (part : A → List B) (d : A) (xs : List A) (n : ℕ) (x : A) → n < length xs → each (n + 1) (λ (k : ℕ). part (get_or (set xs n x) k d)) ≡ each n (λ (k : ℕ). part (get_or xs k d)) ++ part x
  each_set part d xs n x h =
      each_more n (λ (k : ℕ). part (get_or (set xs n x) k d))
      ∙ rw (
        each_same n (λ (k : ℕ). part (get_or (set xs n x) k d)) (λ (k : ℕ). part (get_or xs k d))
            (λ k l. let q : k ≡ n → ⊥ = λ r. omega arith in rw (get_or-set_other xs n k x d q)),
        get_or-set_same xs n x d h,
      )

  -- each of one length, of at most one, of one element at least
  pub length_each : (w n : ℕ) (f : ℕ → List B) → ((k : ℕ) → k < n → length (f k) ≡ w) → length (each n f) ≡ n * w
  unfolding each
  length_each w zero f h = omega arith
  length_each w (suc n) f h =
      rw (length-append (each n f) (f n), length_each w n f (λ k l. h k (omega arith)), h n (omega arith)) (sym (suc-mul n w))

  pub each_short : (w n : ℕ) (f : ℕ → List B) → ((k : ℕ) → k < n → length (f k) ≤ w) → length (each n f) ≤ n * w
  unfolding each
  each_short w zero f h = omega arith
  each_short w (suc n) f h =
      rw (length-append (each n f) (f n), suc-mul n w) (omega (arith, each_short w n f (λ k l. h k (omega arith)), h n (omega arith)))

  pub each_long : (n : ℕ) (f : ℕ → List B) → ((k : ℕ) → 1 ≤ length (f k)) → n ≤ length (each n f)
  unfolding each
  each_long zero f h = omega arith
  each_long (suc n) f h = omega (arith, length-append (each n f) (f n), each_long n f h, h n)

  -- the first m, and the others
  pub each_join : (m n : ℕ) (f : ℕ → List B) → each (m + n) f ≡ each m f ++ each n (λ (k : ℕ). f (m + k))
  unfolding each
  each_join m zero f = rw (add-zero m) (sym (append-nil (each m f)))
  each_join m (suc n) f =
      let e : m + suc n ≡ suc (m + n) = omega arith in
      rw (e, each_join m n f) (append_assoc (each m f) (each n (λ (k : ℕ). f (m + k))) (f (m + n)))

-- place j of list i of n lists of one length
pub each_part : {A : Type 0} (w n : ℕ) (f : ℕ → List A) (i j : ℕ) (d : A) → ((k : ℕ) → k < n → length (f k) ≡ w) → i < n → j < w
    → get_or (each n f) (i * w + j) d ≡ get_or (f i) j d
unfolding each
each_part w zero f i j d long h l = absurd (not-suc-le-zero h)
each_part w (suc n) f i j d long h l =
    let before : length (each n f) ≡ n * w = length_each w n f (λ k q. long k (omega arith)) in
    by_order i n
    (λ q.
    let most : suc i * w ≤ n * w = mul-le-mul_right w q in
    get_or-append (each n f) (f n) d (i * w + j) (rw before (omega (arith, most, suc-mul i w, l))) ∙ each_part w n f i j d (λ k g. long k (omega arith)) q l)
    (λ q.
    let e : i ≡ n = omega arith in
    rw (e, ← before) (get_or-append-add (each n f) (f n) j d))

-- element i of n lists of one element
pub each_at : {A : Type 0} (n : ℕ) (f : ℕ → A) (i : ℕ) (d : A) → i < n → get_or (each n (λ (k : ℕ). f k ∷ [])) i d ≡ f i
each_at n f i d h =
    let e : i * 1 + 0 ≡ i = omega arith in
    rw e at (each_part 1 n (λ (k : ℕ). f k ∷ []) i 0 d (λ k l. refl) h (omega arith))

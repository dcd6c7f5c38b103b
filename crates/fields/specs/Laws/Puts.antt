-- Bytes written one after the other: the parts of a field, and a loop's turns.
use Rattle.std.specs.Prelude.{ℕ, ◌+◌, ◌≤◌, ◌<◌, ◌≡◌, refl, List, ◌++◌, length}
use Rattle.std.proofs.Common.{sym, ap, ◌∙◌, add-zero, arith}
use Rattle.std.proofs.lemmas.List.Edits.{sets}
use Rattle.std.proofs.Math.Seq.{length-sets}
use Rattle.numbers.specs.Lists.{each}
use Rattle.numbers.specs.Laws.Lists.{each_none, each_more, length_each_more, each_fits, puts_after}
use Rattle.fields.specs.Bytes.{head_bytes, field_bytes}

-- a head, then the content that it announces
pub field_put : (l0 : List ℕ) (at tag n : ℕ) (content : List ℕ) {l1 l2 : List ℕ} → n ≡ length content → l1 ≡ sets l0 at (head_bytes tag n) → l2 ≡ sets l1 (at + 3) content → l2 ≡ sets l0 at (field_bytes tag content)
unfolding field_bytes
field_put l0 at tag n content e p q =
    puts_after l0 at (head_bytes tag (length content)) content (p ∙ ap (λ (m : ℕ). sets l0 at (head_bytes tag m)) e) q

-- a loop that writes f 0, f 1, .. from `at` on, after k turns: p is the next place
pub record Turns (out₀ : List ℕ) (at : ℕ) (f : ℕ → List ℕ) (out : List ℕ) (p k : ℕ) : Type 0 where
  pub next : p ≡ at + length (each k f)
  pub kept : length out ≡ length out₀
  pub bytes : out ≡ sets out₀ at (each k f)

module _ (out₀ : List ℕ) (at : ℕ) (f : ℕ → List ℕ) where
  pub no_turns : Turns out₀ at f out₀ at 0
  no_turns = record { next = rw (each_none f) (sym (add-zero at)); kept = refl; bytes = rw (each_none f) }

  pub one_turn : {out out' : List ℕ} {p p' k : ℕ} → Turns out₀ at f out p k → p' ≡ p + length (f k) → out' ≡ sets out p (f k) → Turns out₀ at f out' p' (k + 1)
  one_turn {out} {out'} {p} {p'} {k} t e q =
      let n = t.next in
      let q' : out' ≡ sets out (at + length (each k f)) (f k) = q ∙ ap (λ (i : ℕ). sets out i (f k)) n in
      record {
        next = rw (length_each_more k f) (omega arith);
        kept = ap length q ∙ length-sets out p (f k) ∙ t.kept;
        bytes = rw (each_more k f) (puts_after out₀ at (each k f) (f k) t.bytes q');
      }

  -- there is room for a turn where there is room for all
  pub turn_fits : {out : List ℕ} {p k : ℕ} (n : ℕ) → Turns out₀ at f out p k → at + length (each n f) ≤ length out₀ → k < n → p + length (f k) ≤ length out
  turn_fits {out} {p} {k} n t room h =
      let a = each_fits n f k h in
      let b = t.next in
      let e = t.kept in
      omega arith

  pub all_turns : {out : List ℕ} {p k : ℕ} (n : ℕ) → Turns out₀ at f out p k → k ≤ n → n ≤ k → (p ≡ at + length (each n f)) × (out ≡ sets out₀ at (each n f))
  all_turns {k = k} n t h g =
      let e : k ≡ n = omega arith in
      (rw e at t.next, rw e at t.bytes)

-- two runs of bytes, the second at a place that is the first's end
pub puts_at : (l0 : List ℕ) (at : ℕ) (a b : List ℕ) {p : ℕ} {l1 l2 : List ℕ} → p ≡ at + length a → l1 ≡ sets l0 at a → l2 ≡ sets l1 p b → l2 ≡ sets l0 at (a ++ b)
puts_at l0 at a b {l1 = l1} e q r = puts_after l0 at a b q (r ∙ ap (λ (i : ℕ). sets l1 i b) e)

use Rattle.std.specs.Prelude.{ℕ, ◌+◌, ◌-◌, ◌≤◌, ◌≡◌, List, ◌++◌, length, take, drop, get_or, replicate}
use Rattle.std.proofs.Common.{sym, arith}
use Rattle.std.proofs.lemmas.Grind.{common_steps, elements}
use Rattle.numbers.specs.Lists.{line}
use Rattle.numbers.specs.Laws.Places.{places_are}
use Rattle.contents.specs.Contents.{permutation_at}
use Rattle.contents.proofs.permutation_at.Goals as goal

-- n elements of s from p on, copied to the first of N places
copied : (N : ℕ) (s : List ℕ) (p n : ℕ) → n ≤ N → p + n ≤ length s
    → take (p + n - p) (drop p s) ++ drop n (replicate N 0) ≡ line (replicate N 0) 0 (λ (k : ℕ). get_or s (p + k) 0) n
copied N s p n h l =
    sym
    (places_are N 0 0 _ n h _ (grind (arith, common_steps)) (λ k m. grind (arith, elements)) (λ k m o. grind (arith, elements)))

pub returns : goal.returns
unfolding permutation_at
returns c = let a = c.args in rw c.copy_from_slice.ensures.after (copied 5 a.s.now a.p a.rank c.requires.0 c.requires.1)

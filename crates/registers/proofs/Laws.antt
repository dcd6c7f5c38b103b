-- Laws that the proofs of several functions cite.
use Rattle.std.proofs.Common.{◌≡◌, List, ℕ, ◌+◌, ◌-◌, ◌<◌, ◌≤◌, length, get_or, replicate, sym, ◌∙◌, arith, rules, ext_get_or}
use Rattle.std.proofs.lemmas.List.{places}
use borrow.Rule.Slice.PartMut.{put_mid}
use Rattle.numbers.specs.Lists.{line}
use Rattle.numbers.specs.Laws.Choice.{by_order}
use Rattle.numbers.specs.Laws.Lists.{length_line}
use Rattle.numbers.specs.Laws.Lines.{line_inside, line_outside}

-- a list that has elements of its own from a place on, and d's before and behind them
pub line_is : (d e : List ℕ) (p : ℕ) (g : ℕ → ℕ) (n : ℕ) → p + n ≤ length d → length e ≡ length d → ((i : ℕ) → i < n → get_or e (p + i) 0 ≡ g i)
    → ((k : ℕ) → k < p → get_or e k 0 ≡ get_or d k 0) → ((k : ℕ) → p + n ≤ k → get_or e k 0 ≡ get_or d k 0) → e ≡ line d p g n
line_is d e p g n room same inside before behind =
    ext_get_or 0 e (line d p g n) (same ∙ sym (length_line d p g n))
    (λ k l.
    by_order k p (λ m. before k m ∙ sym (line_outside d p g n k 0 (λ i j q. omega arith)))
    (λ m.
    by_order k (p + n)
    (λ o.
    let at : k ≡ p + (k - p) = omega arith in
    let own : k - p < n = omega arith in
    rw at (inside (k - p) own ∙ sym (line_inside d p g n (k - p) 0 own room)))
    (λ o. behind k o ∙ sym (line_outside d p g n k 0 (λ i j q. omega arith)))))

-- a part of a list that is written over, of so many places from one on
pub part_is : (d part : List ℕ) {start k : ℕ} (p : ℕ) (g : ℕ → ℕ) (n : ℕ) → start ≡ p → k ≡ n → p + n ≤ length d → length part ≡ n
    → ((i : ℕ) → i < n → get_or part i 0 ≡ g i) → put_mid start k d part ≡ line d p g n
part_is d part p g n at size room long own =
    rw (size, at)
    (line_is d (put_mid p n d part) p g n room (search (rules, places))
    (λ i l. search (rules, places) ∙ own i l) (λ k l. search (rules, places)) (λ k l. search (rules, places)))

-- and one that is filled
pub filled_is : (d part : List ℕ) {start k : ℕ} (p x n : ℕ) → start ≡ p → k ≡ n → p + n ≤ length d → part ≡ replicate n x
    → put_mid start k d part ≡ line d p (λ (i : ℕ). x) n
filled_is d part p x n at size room e =
    part_is d part p (λ (i : ℕ). x) n at size room (rw e (search (rules, places))) (λ i l. rw e (search (rules, places)))

use Rattle.std.specs.Prelude.{ℕ, zero, suc, ◌+◌, ◌-◌, ◌≤◌, ◌≡◌, refl, List, [], ◌∷◌, ◌++◌, length, take, get_or}
use Rattle.std.proofs.Common.{ap, sym, ◌∙◌, arith}
use Rattle.std.proofs.Math.Seq.{take-suc}
use Rattle.std.proofs.lemmas.Grind.{common_steps}
use Rattle.std.proofs.lemmas.List.{length-take-le}
use Rattle.std.proofs.lemmas.List.Edits.{sets, sets-eq}
use borrow.Rule.Slice.PartMut.{put_mid}
use Rattle.numbers.specs.Lists.{each}
use Rattle.sheet_bytes.specs.Bytes.{entries_bytes}
use Rattle.sheet_bytes.specs.Laws.Lengths.{length_entries}
use Rattle.sheet_bytes.proofs.views.put_permutation.Goals as goal

entries_take : (n : ℕ) (p : List ℕ) → n ≤ length p → entries_bytes n p ≡ take n p
unfolding each
entries_take zero p h = refl
entries_take (suc n) p h =
    ap (λ (l : List ℕ). l ++ get_or p n 0 ∷ []) (entries_take n p (omega arith)) ∙ sym (take-suc p n 0 (omega arith))

-- the first n elements of p, copied to out from `at` on
copied : (out p new : List ℕ) (at n : ℕ) → n ≤ length p → at + n ≤ length out → new ≡ take n p
    → put_mid at (at + n - at) out new ≡ sets out at (entries_bytes n p)
copied out p new at n h room e =
    let l = length-take-le n p h in
    rw (e, entries_take n p h, sets-eq (take n p) out at (omega arith)) (grind (arith, common_steps))

pub slice_bounds-copy_from_slice-end : goal.slice_bounds-copy_from_slice-end
slice_bounds-copy_from_slice-end c = omega (arith, length_entries c.args.rank c.args.p)

pub returns : goal.returns
returns c =
    let a = c.args in
    let e = c.from-n.ensures in
    rw e (copied a.out.now a.p c.copy_from_slice.new.self a.at a.rank (omega arith) (omega (arith, length_entries a.rank a.p)) (rw e at c.copy_from_slice.ensures.after))

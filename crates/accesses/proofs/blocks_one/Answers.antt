use Rattle.std.proofs.Common.{rules, arith, ℕ, zero, suc, ◌≤◌, ◌≡◌, refl, sym, ◌∙◌, Bool, leb, List, length, get_or, take, add-one}
use Rattle.std.specs.List.{list_all}
use Rattle.std.proofs.lemmas.Iterator.{YieldsList-from_slice}
use Rattle.std.proofs.lemmas.Iterator.Search.{all_from_yields_List}
use Rattle.std.proofs.lemmas.List.Folds.{list_all_more}
use borrow.Author.Tests.{tests}
use Rattle.numbers.specs.All.{all}
use Rattle.numbers.specs.Laws.Choice.{both_and}
use Rattle.sheet.specs.declared.Dimension.{Dimension}
use Rattle.tensor_ranges.specs.Layouts.{no_dimension}
use Rattle.tensor_ranges.specs.Laws.Facts.{layout_most}
use Rattle.accesses.specs.Refusals.{blocks_one}
use Rattle.accesses.proofs.blocks_one.Goals as goal

-- a test of the first elements of a list, as a chain over them has it
all_taken : (p : Dimension → Bool) (xs : List Dimension) (d : Dimension) (n : ℕ) → n ≤ length xs → list_all p (take n xs) ≡ all n (λ (i : ℕ). p (get_or xs i d))
unfolding all
all_taken p xs d zero h = refl
all_taken p xs d (suc n) h =
    rw add-one at (list_all_more p xs n d (omega arith))
    ∙ rw (all_taken p xs d n (omega arith)) (sym (both_and (all n (λ i. p (get_or xs i d))) (p (get_or xs n d))))

flat : Dimension → Bool
flat d = leb d.block 1

pub returns : goal.returns
unfolding blocks_one flat
returns c =
    let l = c.args.l in
    let few = layout_most l c.requires in
    all_from_yields_List flat _ _ _ c.all.ensures.ran (YieldsList-from_slice (take c.from.result l.dimensions) (search rules)) (λ x b q k. search (rules, tests))
    ∙ rw c.from.ensures (all_taken flat l.dimensions no_dimension l.rank (omega arith))

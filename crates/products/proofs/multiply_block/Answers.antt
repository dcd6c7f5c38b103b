use Rattle.std.proofs.Common.{ℕ, List, refl, ap, ◌∙◌}
use Rattle.registers.specs.Laws.Grids.{block_same}
use Rattle.products.specs.Residues.{dot_plus}
use Rattle.products.proofs.Multiplication.{residues_listed, multiplied_at}
use Rattle.products.proofs.multiply_block.Goals as goal

pub returns : goal.returns
returns c =
    let s = c in
    let a = s.args in
    let es = a.elements.now in
    let y = c.residues.ensures ∙ residues_listed _ es a.b a.tb c.place_of-first.ensures c.element_count-count.ensures.0 in
    c.product.ensures
    ∙ block_same _ _ _ _ _ (λ i j l h.
    ap (λ (y : List ℕ). dot_plus es a.a a.ta y a.c a.tc i j) y
    ∙ multiplied_at _ es a.a a.ta a.b a.tb a.c a.tc refl s.requires.1.1 s.requires.3 i j l h)

use mathlib.Core.Path.{ap, ◌∙◌}
use Prim.Native.Nat.{ℕ, ◌*◌}
use lib.ListN.{get_or}
use Rattle.registers.specs.Types.{the_type}
use Rattle.registers.specs.Past.{written_to}
use Rattle.registers.specs.Laws.Past.{block_written}
use Rattle.registers.specs.Laws.Sized.{sized_places}
use Rattle.registers.specs.declared.MatrixType.{MatrixType}
use Rattle.whole_steps.specs.Whole.{whole_result, whole_type, whole_element}
use Rattle.whole_steps.proofs.Laws.Within.{sized_type}
use Rattle.whole_steps.proofs.perform_whole.Goals as goal

pub element_count-count-requires : goal.element_count-count-requires
element_count-count-requires c = let s = c in rw c.whole_type-t.ensures (sized_type s.args.types s.args.step s.requires.whole_ok.1 s.requires.whole_ok.0.parts)

pub returns-clause-elements_after : goal.returns-clause-elements_after
returns-clause-elements_after c =
    let s = c in
    let a = s.args in
    let ts = a.types in
    let es = a.elements.now in
    let memory = a.memory.now in
    let t = whole_type ts a.step in
    let area : MatrixType → ℕ = λ u. u.rows * u.columns in
    let r = c.whole_result-register.ensures in
    let b = c.whole_block.ensures in
    let n = c.element_count-count.ensures.0 ∙ ap area c.whole_type-t.ensures in
    let old = c.element_count-old.ensures.0 ∙ ap area (c.the_type.ensures ∙ ap (the_type ts) r) in
    c.put_block.ensures
    ∙ (λ i. written_to es (r i) (λ (e : ℕ). get_or (b i) e 0) (n i) (old i))
    ∙ block_written ts es s.requires.whole_ok.1 s.requires.past.1 s.requires.past.0 (whole_result a.step) s.requires.whole_ok.0.result a.block.now t.rows t.columns
    (whole_element ts es memory a.step) s.requires.past.2 (sized_places t (sized_type ts a.step s.requires.whole_ok.1 s.requires.whole_ok.0.parts))

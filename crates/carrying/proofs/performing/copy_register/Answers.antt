use mathlib.Core.Path.{ap, ◌∙◌}
use Prim.Native.Nat.{ℕ, ◌*◌}
use Rattle.registers.specs.Types.{with_type}
use Rattle.registers.specs.Registers.{element_of}
use Rattle.registers.specs.Past.{written_to}
use Rattle.registers.specs.Laws.Past.{copy_written}
use Rattle.registers.specs.declared.MatrixType.{MatrixType}
use Rattle.carrying.specs.Steps.{registers_of}
use Rattle.carrying.proofs.performing.copy_register.Goals as goal

pub element_count-old-requires : goal.element_count-old-requires
element_count-old-requires c = rw c.the_type.ensures (c.requires.sized.0.each _)

pub element_count-count-requires : goal.element_count-count-requires
element_count-count-requires c = rw c.the_type-t.ensures (c.requires.sized.0.each _)

pub returns : goal.returns
returns c =
    let s = c in
    let a = s.args in
    let es = a.elements.now in
    let area : MatrixType → ℕ = λ t. t.rows * t.columns in
    let t = c.the_type-t.ensures in
    let n = c.element_count-count.ensures.0 ∙ ap area t in
    let old = c.element_count-old.ensures.0 ∙ ap area c.the_type.ensures in
    let types = c.with_type.ensures ∙ ap (with_type a.types a.register) t in
    let elements =
    c.copy_elements.ensures
    ∙ (λ i. written_to es a.register (element_of es a.object) (n i) (old i))
    ∙ copy_written a.types es s.requires.sized.0 s.requires.sized.2 s.requires.sized.1 a.register s.requires.register_lt_register_count.0 a.object s.requires.register_lt_register_count.1 in
    λ i. registers_of (types i) (elements i)

-- The components of the input, as the step's input interpretation takes them from the input register.
use Rattle.std.specs.Prelude.{List, ℕ, ◌/◌, ◌%◌, eqb, ℤ}
use Rattle.numbers.specs.Choice.{pick}
use Rattle.kinds.specs.Widths.{u8, s8}
use Rattle.kinds.specs.Values.{value}
use Rattle.kinds.specs.Interpretations.{packed_signed, packed}
use Rattle.sheet.specs.declared.VectorStep.{VectorStep}
use Rattle.memory.specs.Elements.{byte_of}
use Rattle.registers.specs.Registers.{element_of}
use Rattle.vectors.specs.Saturation.{saturated}

-- the kind of a packed component: s8 or u8
unfoldable pub packed_kind : ℕ → ℕ
packed_kind interpretation = pick (eqb interpretation packed_signed) s8 u8

-- the raw bits of packed component c: four components a word, lowest first
abbrev pub packed_byte : List ℕ → VectorStep → ℕ → ℕ
packed_byte es v c = byte_of (element_of es v.input (c / 4)) (c % 4)

-- component c of an input register of a kind: by a packed interpretation its bits, by any other an arithmetic conversion of element c
unfoldable pub component_at : List ℕ → ℕ → VectorStep → ℕ → ℤ
component_at es kind v c =
    pick (packed v.interpretation)
    (value (packed_kind v.interpretation) (packed_byte es v c))
    (saturated v.interpretation (value kind (element_of es v.input c)))

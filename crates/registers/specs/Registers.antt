-- The registers' elements, and what copying and filling do.
use Rattle.std.specs.Prelude.{List, ℕ, ◌+◌, ◌*◌, get_or, set, replicate}
use Rattle.numbers.specs.Lists.{line}
use Rattle.sheet.specs.Sizes.{register_count, matrix_places, element_places}
use Rattle.registers.specs.Types.{no_type, the_type, with_type}
use Rattle.registers.specs.declared.Registers.{Registers}

-- where register r's element number e stands
abbrev pub place_of : ℕ → ℕ → ℕ
place_of r e = matrix_places * r + e

-- all registers are empty at the start
unfoldable pub empty_registers : Registers
empty_registers = record { types = replicate register_count no_type; elements = replicate element_places 0 }

abbrev pub element_of : List ℕ → ℕ → ℕ → ℕ
element_of es r e = get_or es (place_of r e) 0

abbrev pub with_element_of : List ℕ → ℕ → ℕ → ℕ → List ℕ
with_element_of es r e x = set es (place_of r e) x

-- register r's places made those of a block
abbrev pub with_block : List ℕ → ℕ → List ℕ → List ℕ
with_block es r block = line es (place_of r 0) (λ (e : ℕ). get_or block e 0) matrix_places

-- register r's places made those of register s
abbrev pub copied_elements : List ℕ → ℕ → ℕ → List ℕ
copied_elements es r s = line es (place_of r 0) (element_of es s) matrix_places

-- n of register r's elements, from element f on, made x
abbrev pub filled_elements : List ℕ → ℕ → ℕ → ℕ → ℕ → List ℕ
filled_elements es r f n x = line es (place_of r f) (λ (i : ℕ). x) n

-- register r made equal to register s
abbrev pub copied : Registers → ℕ → ℕ → Registers
copied g r s =
    record { types = with_type g.types r (the_type g.types s); elements = copied_elements g.elements r s }

-- register r made zeros of its own type
abbrev pub zeroed : Registers → ℕ → Registers
zeroed g r =
    let t = the_type g.types r in
    record { types = g.types; elements = filled_elements g.elements r 0 (t.rows * t.columns) 0 }

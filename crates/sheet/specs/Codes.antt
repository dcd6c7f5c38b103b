-- The numbers by which a sheet names its fields, a clamp mode, a reduce mode, a combine, a memory layout, a flag, an object and a view. A number
-- past a table stands for the last entry here; the reader tests it before.
use Rattle.std.specs.Prelude.{ℕ, Bool, true, false, eqb}
use Rattle.numbers.specs.Choice.{pick}
use Rattle.sheet.specs.declared.Object.{Object}
use Rattle.sheet.specs.declared.Object.TheVariants.{Kept, Zeros, Register}
use Rattle.sheet.specs.declared.Viewing.{Viewing}
use Rattle.sheet.specs.declared.Viewing.TheVariants.{Plain, Through}
use Rattle.sheet.specs.declared.ClampMode.{ClampMode}
use Rattle.sheet.specs.declared.ClampMode.TheVariants.{Undefined, Constant, ClampToEdge, Repeat, MirrorRepeat}
use Rattle.sheet.specs.declared.ReduceMode.{ReduceMode}
use Rattle.sheet.specs.declared.ReduceMode.TheVariants.{Row, Column, Both, TwoByTwo}
use Rattle.sheet.specs.declared.Combine.{Combine}
use Rattle.sheet.specs.declared.Combine.TheVariants.{Add, Min, Max, And, Or, Xor}
use Rattle.sheet.specs.declared.MemoryLayout.{MemoryLayout}
use Rattle.sheet.specs.declared.MemoryLayout.TheVariants.{RowMajor, ColumnMajor}

-- the tags of fields
abbrev pub edition_tag : ℕ
edition_tag = 0x01

abbrev pub layout_tag : ℕ
layout_tag = 0x10

abbrev pub view_tag : ℕ
view_tag = 0x11

abbrev pub fill_tag : ℕ
fill_tag = 0x20

abbrev pub load_tag : ℕ
load_tag = 0x21

abbrev pub store_tag : ℕ
store_tag = 0x22

abbrev pub reduce_tag : ℕ
reduce_tag = 0x23

abbrev pub transpose_tag : ℕ
transpose_tag = 0x24

abbrev pub multiply_tag : ℕ
multiply_tag = 0x25

abbrev pub vector_tag : ℕ
vector_tag = 0x26

-- the tags of steps are those from fill's to this one
abbrev pub last_step_tag : ℕ
last_step_tag = vector_tag

abbrev pub undefined : ClampMode → Bool
undefined Undefined = true
undefined Constant = false
undefined ClampToEdge = false
undefined Repeat = false
undefined MirrorRepeat = false

abbrev pub clamp_code : ClampMode → ℕ
clamp_code Undefined = 0
clamp_code Constant = 1
clamp_code ClampToEdge = 2
clamp_code Repeat = 3
clamp_code MirrorRepeat = 4

unfoldable pub clamp_mode : ℕ → ClampMode
clamp_mode code =
    pick (eqb code 0) Undefined
    (pick (eqb code 1) Constant
    (pick (eqb code 2) ClampToEdge
    (pick (eqb code 3) Repeat
    MirrorRepeat)))

abbrev pub reduce_code : ReduceMode → ℕ
reduce_code Row = 1
reduce_code Column = 2
reduce_code Both = 3
reduce_code TwoByTwo = 4

unfoldable pub reduce_mode : ℕ → ReduceMode
reduce_mode code =
    pick (eqb code 1) Row
    (pick (eqb code 2) Column
    (pick (eqb code 3) Both
    TwoByTwo))

abbrev pub combine_code : Combine → ℕ
combine_code Add = 0
combine_code Min = 1
combine_code Max = 2
combine_code And = 3
combine_code Or = 4
combine_code Xor = 5

unfoldable pub combine_of : ℕ → Combine
combine_of code =
    pick (eqb code 0) Add
    (pick (eqb code 1) Min
    (pick (eqb code 2) Max
    (pick (eqb code 3) And
    (pick (eqb code 4) Or
    Xor))))

abbrev pub memory_layout_code : MemoryLayout → ℕ
memory_layout_code RowMajor = 0
memory_layout_code ColumnMajor = 1

unfoldable pub memory_layout : ℕ → MemoryLayout
memory_layout code = pick (eqb code 0) RowMajor ColumnMajor

unfoldable pub flag_code : Bool → ℕ
flag_code flag = pick flag 1 0

-- no object, no view
abbrev pub none : ℕ
none = 255

abbrev pub object_code : Object → ℕ
object_code Kept = none
object_code Zeros = none
object_code (Register register) = register

-- `absent` is what no object means in the sheet's edition
unfoldable pub object_of : Object → ℕ → Object
object_of absent code = pick (eqb code none) absent (Register code)

abbrev pub viewing_code : Viewing → ℕ
viewing_code Plain = none
viewing_code (Through view) = view

unfoldable pub viewing_of : ℕ → Viewing
viewing_of code = pick (eqb code none) Plain (Through code)

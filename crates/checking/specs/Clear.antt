-- A load or a store that its check accepts.
use Rattle.std.specs.Prelude.{◌≡◌, false}
use Rattle.registers.specs.Types.{is_empty}
use Rattle.registers.specs.declared.MatrixType.{MatrixType}
use Rattle.addressing.specs.declared.Access.{Access}
use Rattle.accesses.specs.Refusals.{access_refusal}

-- a load or a store that its check does not refuse: the register is not empty, and no refusal 9 to 15
pub record Clear (t : MatrixType) (a : Access) : Type 0 where
  pub filled : is_empty t ≡ false
  pub clear : (access_refusal a).number ≡ 0

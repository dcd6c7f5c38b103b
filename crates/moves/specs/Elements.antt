-- What a take, a put and a fill do to their elements.
use Rattle.std.specs.Prelude.{ℕ, ◌+◌}
use Rattle.numbers.specs.Orders.{in_order}
use Rattle.kinds.specs.Widths.{bytes_of}
use Rattle.registers.specs.Types.{the_type}
use Rattle.transfers.specs.Acts.{State, took, gave, put}
use Rattle.carrying.specs.Steps.{Machine, state_of, machine_of}
use Rattle.judging.specs.Records.{byte_at}

-- element i of a take, a put and a fill
abbrev pub taking : ℕ → ℕ → ℕ → ℕ → ℕ → ℕ → ℕ → State → State
taking size register first byte up down i s = took size register (first + i) (byte_at byte up down i) s

abbrev pub putting : ℕ → ℕ → ℕ → ℕ → ℕ → ℕ → ℕ → State → State
putting size register first byte up down i s = put size register (first + i) (byte_at byte up down i) s

abbrev pub filling : ℕ → ℕ → ℕ → ℕ → State → State
filling register first value i s = gave register (first + i) value s

-- a record that works on elements of register r: their acts, by the size of its elements
abbrev pub on_elements : ℕ → (ℕ → ℕ → State → State) → ℕ → Machine → Machine
on_elements register act count m =
    machine_of m.registers.types (in_order (act (bytes_of (the_type m.registers.types register).kind)) count (state_of m))

-- A load's or a store's runs as they stand on the tape: six numbers each.
use Rattle.std.specs.Prelude.{ℕ, Bool, true, false, List, [], ◌∷◌, ◌++◌, ℤ, pos}
use Rattle.signed.specs.Numbers.{signed_of}
use Rattle.runs.specs.Even.{Stretch, bytes, fills}

-- 1 take, of a load; 2 put, of a store
abbrev pub move_op : Bool → ℤ
move_op true = pos 1
move_op false = pos 2

-- a take or a put: register, first, count, byte, step; 3 fill: register, first, count, value, 0
abbrev pub stretch_numbers : Bool → ℕ → Stretch → List ℤ
stretch_numbers load register (bytes first count byte step) = move_op load ∷ pos register ∷ pos first ∷ pos count ∷ pos byte ∷ step ∷ []
stretch_numbers load register (fills first count value) = pos 3 ∷ pos register ∷ pos first ∷ pos count ∷ signed_of value ∷ pos 0 ∷ []

-- a load's or a store's runs as they stand on the tape
abbrev pub run_numbers : Bool → ℕ → List Stretch → List ℤ
run_numbers load register [] = []
run_numbers load register (r ∷ rs) = stretch_numbers load register r ++ run_numbers load register rs

-- What the content of a step's field says, by the table of "The sheet".
use Rattle.std.specs.Prelude.{ℕ, ◌+◌, List, get_or, leb, eqb}
use Rattle.numbers.specs.Choice.{pick, between}
use Rattle.numbers.specs.Little.{u16_at, u32_at}
use Rattle.sheet.specs.Editions.{no_object, fill_length}
use Rattle.sheet.specs.Codes.{fill_tag, load_tag, store_tag, reduce_tag, transpose_tag, multiply_tag, reduce_mode, combine_of, memory_layout, object_of, viewing_of}
use Rattle.sheet.specs.declared.Window.{Window}
use Rattle.sheet.specs.declared.Step.{Step}
use Rattle.sheet.specs.declared.Step.TheVariants.{Nothing, Load, Store, Whole}
use Rattle.sheet.specs.declared.WholeStep.TheVariants.{Fill, Reduce, Transpose, MultiplyAdd, Vector}
use Rattle.sheet.specs.declared.VectorStep.{VectorStep}

-- 0x20 to 0x26: the steps
unfoldable pub fill_at : List ℕ → ℕ → Step
fill_at s p = Whole (Fill (get_or s p 0) (get_or s (p + 1) 0) (get_or s (p + 2) 0) (get_or s (p + 3) 0) (u32_at s (p + 4)))

-- layout, view or 255, base
unfoldable pub window_at : List ℕ → ℕ → Window
window_at s p = record { layout = get_or s p 0; view = viewing_of (get_or s (p + 1) 0); base = u32_at s (p + 2) }

-- register, object or 255, and where in memory
unfoldable pub load_at : ℕ → List ℕ → ℕ → Step
load_at edition s p = Load (get_or s p 0) (object_of (no_object edition) (get_or s (p + 1) 0)) (window_at s (p + 2))

unfoldable pub store_at : List ℕ → ℕ → Step
store_at s p = Store (get_or s p 0) (window_at s (p + 1))

-- a reduce whose mode or combine is not in the table is no step
unfoldable pub reduce_at : List ℕ → ℕ → Step
reduce_at s p =
    pick (between 1 4 (get_or s (p + 4) 0))
    (pick (leb (get_or s (p + 5) 0) 5)
    (Whole (Reduce (get_or s p 0) (get_or s (p + 1) 0) (get_or s (p + 2) 0) (get_or s (p + 3) 0) (reduce_mode (get_or s (p + 4) 0)) (combine_of (get_or s (p + 5) 0))))
    Nothing)
    Nothing

unfoldable pub transpose_at : List ℕ → ℕ → Step
transpose_at s p = Whole (Transpose (get_or s p 0) (get_or s (p + 1) 0))

unfoldable pub multiply_at : List ℕ → ℕ → Step
multiply_at s p = Whole (MultiplyAdd (get_or s p 0) (get_or s (p + 1) 0) (get_or s (p + 2) 0) (get_or s (p + 3) 0))

-- the numbers of a vector step
unfoldable pub vector_numbers : List ℕ → ℕ → VectorStep
vector_numbers s p =
    record {
      result = get_or s p 0;
      kind = get_or s (p + 1) 0;
      input = get_or s (p + 2) 0;
      interpretation = get_or s (p + 3) 0;
      matrix = get_or s (p + 4) 0;
      rows = get_or s (p + 5) 0;
      columns = get_or s (p + 6) 0;
      layout = memory_layout (get_or s (p + 7) 0);
      stride = u16_at s (p + 8);
      offset = u32_at s (p + 10);
      biased = eqb (get_or s (p + 14) 0) 1;
      bias = u32_at s (p + 15);
    }

-- a vector step whose memory layout is not in the table, or whose bias is neither 0 nor 1, is no step
unfoldable pub vector_at : List ℕ → ℕ → Step
vector_at s p =
    pick (leb (get_or s (p + 7) 0) 1)
    (pick (leb (get_or s (p + 14) 0) 1)
    (Whole (Vector (vector_numbers s p)))
    Nothing)
    Nothing

unfoldable pub step_at : ℕ → List ℕ → ℕ → ℕ → Step
step_at edition s tag p =
    pick (eqb tag fill_tag) (fill_at s p)
    (pick (eqb tag load_tag) (load_at edition s p)
    (pick (eqb tag store_tag) (store_at s p)
    (pick (eqb tag reduce_tag) (reduce_at s p)
    (pick (eqb tag transpose_tag) (transpose_at s p)
    (pick (eqb tag multiply_tag) (multiply_at s p)
    (vector_at s p))))))

unfoldable pub step_length : ℕ → ℕ → ℕ
step_length edition tag =
    pick (eqb tag fill_tag) (fill_length edition)
    (pick (eqb tag load_tag) 8
    (pick (eqb tag store_tag) 7
    (pick (eqb tag reduce_tag) 6
    (pick (eqb tag transpose_tag) 2
    (pick (eqb tag multiply_tag) 4
    19)))))

-- What the elements of the registers keep.
use Rattle.std.specs.Prelude.{◌≡◌, ◌≢◌, List, ℕ, ◌+◌, ◌<◌, ◌≤◌, length}
use Rattle.std.proofs.Common.{arith}
use Rattle.numbers.specs.Lists.{line}
use Rattle.numbers.specs.Laws.Lists.{line_more}
use Rattle.numbers.specs.Laws.Lines.{line_inside, line_outside}
use Rattle.sheet.specs.Sizes.{matrix_places}
use Rattle.registers.specs.Registers.{place_of, element_of, with_element_of, filled_elements}

-- writing a register's places gives it its elements
pub own_places : (es : List ℕ) (r : ℕ) (g : ℕ → ℕ) (e : ℕ) → place_of r 0 + matrix_places ≤ length es → e < matrix_places → element_of (line es (place_of r 0) g matrix_places) r e ≡ g e
own_places es r g e h l =
    let at : place_of r e ≡ place_of r 0 + e = omega arith in
    rw at (line_inside es (place_of r 0) g matrix_places e 0 l h)

-- and leaves every other register's
pub others_kept : (es : List ℕ) (r : ℕ) (g : ℕ → ℕ) (q e : ℕ) → q ≢ r → e < matrix_places → element_of (line es (place_of r 0) g matrix_places) q e ≡ element_of es q e
others_kept es r g q e d h = line_outside es (place_of r 0) g matrix_places (place_of q e) 0 (λ i l p. d (omega arith))

-- one element more is filled
pub filled_more : (es : List ℕ) (r f n x : ℕ) → with_element_of (filled_elements es r f n x) r (f + n) x ≡ filled_elements es r f (n + 1) x
filled_more es r f n x =
    let at : place_of r (f + n) ≡ place_of r f + n = omega arith in
    rw at (line_more es (place_of r f) (λ (i : ℕ). x) n)

-- What the inner functions of a reduce give: the folds of its parts.
use Rattle.std.specs.Prelude.{List, ℕ, ◌+◌, ◌*◌, ◌/◌, ◌%◌, get_or, replicate}
use Rattle.numbers.specs.Lists.{line}
use Rattle.sheet.specs.Sizes.{side_places}
use Rattle.sheet.specs.declared.Combine.{Combine}
use Rattle.combines.specs.Combining.{folded}

-- the element at a place folded with as many later ones, a step apart
abbrev pub fold_at : List ℕ → ℕ → Combine → ℕ → ℕ → ℕ → ℕ
fold_at es kind combine step later first = folded kind combine (λ (t : ℕ). get_or es (first + t * step) 0) later

unfoldable pub no_folds : List ℕ
no_folds = replicate side_places 0

-- the folds of parts whose first elements are so many places apart
unfoldable pub folds : List ℕ → ℕ → Combine → ℕ → ℕ → ℕ → ℕ → ℕ → List ℕ
folds es kind combine first apart step later count =
    line no_folds 0 (λ (k : ℕ). fold_at es kind combine step later (first + k * apart)) count

-- the fold of two elements at a place and the two a row of n below them
abbrev pub quad : List ℕ → ℕ → Combine → ℕ → ℕ → ℕ
quad es kind combine n first = folded kind combine (λ (t : ℕ). get_or es (first + t / 2 * n + t % 2) 0) 3

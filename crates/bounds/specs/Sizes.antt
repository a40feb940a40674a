-- The sizes of cells.
use Rattle.std.specs.Prelude.{ℕ, max, List, [], ◌∷◌, ℤ, unsigned_abs}
use Rattle.std.specs.List.{AllByRecursion}
use Rattle.finisher.specs.Finishers.{Within}

-- the greatest of a size and the sizes of some cells
abbrev pub greatest : ℕ → List ℤ → ℕ
greatest size [] = size
greatest size (cell ∷ cells) = greatest (max size (unsigned_abs cell)) cells

-- cells from -a to a, as the law on published counts asks of an epoch's cells
abbrev pub AllWithin : ℕ → List ℤ → Type 0
AllWithin a cells = AllByRecursion (λ cell. Within a cell 0) cells

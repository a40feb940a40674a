-- What publishing answers as a plain number.
use Rattle.std.specs.Prelude.{ℕ, cond, List, ltb, length}
use Rattle.publishing.specs.Whole.{least_room, publication}

-- the publication's length, or 0 where the output is refused
abbrev pub bytes_written : List ℕ → List ℕ → ℕ → ℕ
bytes_written events tape size = cond (ltb size least_room) 0 (length (publication events tape size))

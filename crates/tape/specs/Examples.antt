-- Worked examples of the cells that bytes stand for.
use Rattle.std.specs.Prelude.{◌≡◌, [], ◌∷◌, pos, negsuc}
use Rattle.tape.specs.Tapes.{byte_cells, coin_cells}

-- -2 with a byte over; the least coins but one, -31; the most, 32
abbrev pub WorkedTapes : Type 0
WorkedTapes =
    (byte_cells (0xFE ∷ 0xFF ∷ 0xFF ∷ 0xFF ∷ 0x07 ∷ []) ≡ negsuc 1 ∷ [])
    × (coin_cells (1 ∷ 0 ∷ 0 ∷ 0 ∷ 0 ∷ 0 ∷ 0 ∷ 0 ∷ []) ≡ negsuc 30 ∷ [])
    × (coin_cells (0xFF ∷ 0xFF ∷ 0xFF ∷ 0xFF ∷ 0xFF ∷ 0xFF ∷ 0xFF ∷ 0xFF ∷ []) ≡ pos 32 ∷ [])

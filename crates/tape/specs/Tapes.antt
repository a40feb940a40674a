-- What is drawn from a list of cells, and the cells that bytes stand for.
use Rattle.std.specs.Prelude.{ℕ, ◌+◌, ◌*◌, List, [], ◌∷◌, ℤ, pos, ◌-ℤ◌, Ok, Err, Result}
use Rattle.std.specs.Int.Count.{ones_in}
use Rattle.std.specs.Int.{w32}
use Rattle.std.proofs.Common.{to_z}
use Rattle.tape.specs.declared.ByteTape.{ByteTape}
use Rattle.tape.specs.declared.CoinTape.{CoinTape}
use Rattle.fault.specs.declared.Fault.{Fault}
use Rattle.fault.specs.declared.Cause.TheVariants.{TapeShort}
use Rattle.fault.specs.declared.Layer.TheVariants.{Tape}

-- a draw answers the first cell, and is refused where there is none
abbrev pub drawn : List ℤ → Result ℤ Fault
drawn [] = Err (record { cause = TapeShort 0; layer = Tape })
drawn (cell ∷ cells) = Ok cell

-- what a draw leaves
abbrev pub undrawn : List ℤ → List ℤ
undrawn [] = []
undrawn (cell ∷ cells) = cells

-- four bytes, lowest first, as a number in two's complement
abbrev pub byte_cell : ℕ → ℕ → ℕ → ℕ → ℤ
byte_cell a b c d = to_z w32 (a + b * 256 + c * 65536 + d * 16777216)

-- bytes in fours; bytes over are ignored
abbrev pub byte_cells : List ℕ → List ℤ
byte_cells [] = []
byte_cells (a ∷ []) = []
byte_cells (a ∷ b ∷ []) = []
byte_cells (a ∷ b ∷ c ∷ []) = []
byte_cells (a ∷ b ∷ c ∷ d ∷ more) = byte_cell a b c d ∷ byte_cells more

-- the one bits of a byte
abbrev pub coins : ℕ → ℕ
coins b = ones_in 8 b

-- the one bits of eight bytes, less 32
abbrev pub cell_of_coins : ℕ → ℕ → ℕ → ℕ → ℕ → ℕ → ℕ → ℕ → ℤ
cell_of_coins a b c d e f g h = pos (coins a + coins b + coins c + coins d + coins e + coins f + coins g + coins h) -ℤ pos 32

-- bytes in eights; bytes over are ignored
abbrev pub coin_cells : List ℕ → List ℤ
coin_cells [] = []
coin_cells (a ∷ []) = []
coin_cells (a ∷ b ∷ []) = []
coin_cells (a ∷ b ∷ c ∷ []) = []
coin_cells (a ∷ b ∷ c ∷ d ∷ []) = []
coin_cells (a ∷ b ∷ c ∷ d ∷ e ∷ []) = []
coin_cells (a ∷ b ∷ c ∷ d ∷ e ∷ f ∷ []) = []
coin_cells (a ∷ b ∷ c ∷ d ∷ e ∷ f ∷ g ∷ []) = []
coin_cells (a ∷ b ∷ c ∷ d ∷ e ∷ f ∷ g ∷ h ∷ more) = cell_of_coins a b c d e f g h ∷ coin_cells more

-- the cells still on a tape over bytes
abbrev pub on_byte_tape : ByteTape → List ℤ
on_byte_tape tape = byte_cells tape.bytes.now

abbrev pub on_coin_tape : CoinTape → List ℤ
on_coin_tape tape = coin_cells tape.bytes.now

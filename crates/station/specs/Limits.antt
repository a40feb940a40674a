-- The limits that a class's noise keeps.
use Rattle.std.specs.Prelude.{ℕ, suc, ◌*◌, ◌<◌, List, ℤ, pos, slice_index_or}
use Rattle.std.specs.Int.Signed.{mag}

-- what the noise of step k + 1 stays below, with or without its sign
abbrev pub noise_limit : ℕ → ℕ
noise_limit k = 2147483648 * suc k

-- the noise of each step
abbrev pub NoiseWithin : List ℤ → Type 0
NoiseWithin noise = (k : ℕ) → mag (slice_index_or noise k (pos 0)) < noise_limit k

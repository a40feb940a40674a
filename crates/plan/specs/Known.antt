-- The plans of the library.
use Rattle.std.specs.Prelude.{ℕ, zero, suc, ◌-◌, ◌%◌, ◌^◌, cond, ◌==◌}

-- each step goes back by one
abbrev pub single : ℕ → ℕ
single t = t - 1

-- the largest of the powers 2 ^ 0 to 2 ^ j that divides t
unfoldable pub power_in : ℕ → ℕ → ℕ
power_in zero t = 1
power_in (suc j) t = cond (t % 2 ^ suc j == 0) (2 ^ suc j) (power_in j t)

-- each step t from 1 goes back by the largest power of two that divides it, which is below 2 ^ t
unfoldable pub dyadic : ℕ → ℕ
dyadic t = t - power_in t t

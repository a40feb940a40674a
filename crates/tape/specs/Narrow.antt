-- Each cell of a byte tape and of a coin tape fits 32 bits, signed: what their ghost member `narrow` gives.
use Rattle.std.specs.Prelude.{ℕ, zero, suc, ◌+◌, ◌-◌, ◌*◌, ◌/◌, ◌^◌, ◌<◌, ◌≤◌, true, false, cond, List, [], ◌∷◌, pos, negsuc, ◌-ℤ◌, FitsSigned, nat_lt}
use Rattle.std.proofs.Common.{arith}
use borrow.Author.Gap.{read_sfits}
use Rattle.std.specs.Int.Count.{ones_in}
use Rattle.std.specs.Int.Signed.{mag}
use Rattle.std.specs.Int.{w32}
use Rattle.std.specs.List.{AllByRecursion}
use Rattle.tape.specs.Tapes.{byte_cells, coins, coin_cells}

pub byte-cells-fit : (xs : List ℕ) → AllByRecursion (FitsSigned w32) (byte_cells xs)
byte-cells-fit [] = tt
byte-cells-fit (a ∷ []) = tt
byte-cells-fit (a ∷ b ∷ []) = tt
byte-cells-fit (a ∷ b ∷ c ∷ []) = tt
byte-cells-fit (a ∷ b ∷ c ∷ d ∷ more) = (read_sfits w32 (a + b * 256 + c * 65536 + d * 16777216), byte-cells-fit more)

coins-le : (k n : ℕ) → ones_in k n ≤ k
unfolding ones_in
coins-le zero n = omega arith
coins-le (suc k) n = let next : ones_in k (n / 2) ≤ k = coins-le k (n / 2) in omega arith

less-fits : (n : ℕ) → n ≤ 64 → FitsSigned w32 (pos n -ℤ pos 32)
less-fits n h =
    record { sfits = elim (nat_lt n 32) as (λ b. mag (cond b (negsuc (32 - suc n)) (pos (n - 32))) < 2 ^ 31) [ true ↦ omega arith | false ↦ omega arith ] }

pub coin-cells-fit : (xs : List ℕ) → AllByRecursion (FitsSigned w32) (coin_cells xs)
coin-cells-fit [] = tt
coin-cells-fit (a ∷ []) = tt
coin-cells-fit (a ∷ b ∷ []) = tt
coin-cells-fit (a ∷ b ∷ c ∷ []) = tt
coin-cells-fit (a ∷ b ∷ c ∷ d ∷ []) = tt
coin-cells-fit (a ∷ b ∷ c ∷ d ∷ e ∷ []) = tt
coin-cells-fit (a ∷ b ∷ c ∷ d ∷ e ∷ f ∷ []) = tt
coin-cells-fit (a ∷ b ∷ c ∷ d ∷ e ∷ f ∷ g ∷ []) = tt
coin-cells-fit (a ∷ b ∷ c ∷ d ∷ e ∷ f ∷ g ∷ h ∷ more) =
    let most : coins a + coins b + coins c + coins d + coins e + coins f + coins g + coins h ≤ 64 =
    omega (arith, coins-le 8 a, coins-le 8 b, coins-le 8 c, coins-le 8 d, coins-le 8 e, coins-le 8 f, coins-le 8 g, coins-le 8 h) in
    (less-fits (coins a + coins b + coins c + coins d + coins e + coins f + coins g + coins h) most, coin-cells-fit more)

-- The laws of noise, and how large it can be.
use Rattle.std.proofs.Common.{◌≡◌, ℕ, zero, suc, ◌+◌, ◌-◌, ◌*◌, ◌^◌, ◌<◌, ◌≤◌, List, [], ◌∷◌, length, get_or, ℤ, pos, negsuc, ◌+ℤ◌, ap, arith, w32, SFits}
use lib.IntN.{sub_ℕ}
use lib.Signed.{mag}
use Rattle.std.specs.List.{AllByRecursion}
use Rattle.plan.specs.Plans.{horizon, Falls, cover}
use Rattle.plan.specs.Covers.{cover-zero, cover-step, cover-length}
use Rattle.sketch.specs.Noise.{cell_of, sum_of, noise_of, NoiseLaws}

pub noise-none : (p : ℕ → ℕ) (cells : List ℤ) → noise_of p cells 0 ≡ pos 0
unfolding noise_of
noise-none p cells = ap (sum_of cells) (cover-zero p)

pub noise-more : (p : ℕ → ℕ) (cells : List ℤ) → Falls p → (t : ℕ) → 1 ≤ t → t ≤ horizon → noise_of p cells t ≡ cell_of cells t +ℤ noise_of p cells (p t)
unfolding noise_of
noise-more p cells falls t l u = ap (sum_of cells) (cover-step p horizon falls t l u)

pub noise-laws : (p : ℕ → ℕ) (cells : List ℤ) → Falls p → NoiseLaws p cells
noise-laws p cells falls = record { none = noise-none p cells; more = noise-more p cells falls }

mag-sub : (a b : ℕ) → mag (sub_ℕ a b) ≤ a + b
mag-sub a b = grind arith

mag-add : (a b : ℤ) → mag (a +ℤ b) ≤ mag a + mag b + 1
mag-add (pos a) (pos b) = omega arith
mag-add (pos a) (negsuc b) = omega (arith, mag-sub a (suc b))
mag-add (negsuc a) (pos b) = omega (arith, mag-sub b (suc a))
mag-add (negsuc a) (negsuc b) = omega arith

cell-small : (cells : List ℤ) → AllByRecursion (SFits w32) cells → (i : ℕ) → mag (get_or cells i (pos 0)) < 2 ^ 31
cell-small [] fits i = omega arith
cell-small (c ∷ cells) fits zero = fits.0.sfits
cell-small (c ∷ cells) fits (suc i) = cell-small cells fits.1 i

sum-small : (cells : List ℤ) → AllByRecursion (SFits w32) cells → (ts : List ℕ) → mag (sum_of cells ts) ≤ 2 ^ 31 * length ts
sum-small cells fits [] = omega arith
sum-small cells fits (t ∷ ts) = omega (arith, mag-add (cell_of cells t) (sum_of cells ts), cell-small cells fits (t - 1), sum-small cells fits ts)

-- |N(t)| is at most 2 ^ 31 * t
pub noise-small : (p : ℕ → ℕ) (cells : List ℤ) → AllByRecursion (SFits w32) cells → (t : ℕ) → mag (noise_of p cells t) ≤ 2 ^ 31 * t
unfolding noise_of
noise-small p cells fits t = omega (arith, sum-small cells fits (cover p t), cover-length p t)

-- One class: its noise stays within its limits.
use Rattle.std.proofs.Common.{◌≡◌, ℕ, zero, suc, ◌-◌, ◌*◌, ◌<◌, ◌≤◌, List, [], ◌∷◌, ◌++◌, length, get_or, ℤ, pos, negsuc, ◌+ℤ◌, ◌≤ℤ◌, ⊎_elim, arith, w32, SFits}
use lib.Signed.{mag}
use Rattle.std.proofs.Math.Seq.{get_or-append_right}
use Rattle.std.proofs.lemmas.Bool.{cases_lt}
use Rattle.std.proofs.lemmas.Int.{ints}
use Rattle.std.proofs.lemmas.List.{get_or_append_left}
use Rattle.runs.specs.Model.{noise_after}
use Rattle.station.specs.Limits.{NoiseWithin, noise_limit}

-- from -limit to limit
abbrev pub Within : ℕ → ℤ → Type 0
Within limit z = (z ≤ℤ pos limit) × (pos 0 ≤ℤ (z +ℤ pos limit))

within : (limit : ℕ) (z : ℤ) → mag z < limit → Within limit z
within limit (pos n) h = (omega (arith, ints), omega (arith, ints))
within limit (negsuc n) h = (omega (arith, ints), omega (arith, ints))

-- N t is at most t times what a cell can be
pub noise-within : (noise : List ℤ) (back : ℕ) → NoiseWithin noise → Within (2147483648 * back) (noise_after noise back)
noise-within noise zero all = (omega (arith, ints), omega (arith, ints))
noise-within noise (suc k) all = within (noise_limit k) (get_or noise k (pos 0)) (all k)

mag_sum : (steps back : ℕ) (cell n v : ℤ) → back ≤ steps → mag cell < 2147483648 → Within (2147483648 * back) n → v ≡ cell +ℤ n → mag v < noise_limit steps
mag_sum steps back (pos m) n (pos a) h f w e = omega (arith, ints)
mag_sum steps back (negsuc m) n (pos a) h f w e = omega (arith, ints)
mag_sum steps back (pos m) n (negsuc a) h f w e = omega (arith, ints)
mag_sum steps back (negsuc m) n (negsuc a) h f w e = omega (arith, ints)

mag-last : (v : ℤ) (i : ℕ) → mag (get_or (v ∷ []) i (pos 0)) ≤ mag v
mag-last v zero = omega arith
mag-last v (suc i) = omega arith

pub within-more : (noise : List ℤ) (back : ℕ) (cell v : ℤ) → back ≤ length noise → SFits w32 cell → v ≡ cell +ℤ noise_after noise back → NoiseWithin noise → NoiseWithin (noise ++ v ∷ [])
within-more noise back cell v h f e all k =
    ⊎_elim
    (λ (low : k < length noise). rw (get_or_append_left noise (v ∷ []) (pos 0) k low) (all k))
    (λ (past : length noise ≤ k).
    let here : mag v < noise_limit (length noise) = mag_sum (length noise) back cell (noise_after noise back) v h f.sfits (noise-within noise back all) e in
    rw (get_or-append_right noise (v ∷ []) k (pos 0) past) (omega (arith, mag-last v (k - length noise))))
    (cases_lt k (length noise))

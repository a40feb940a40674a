-- Depth and breadth of the single plan.
use Rattle.std.proofs.Common.{◌≡◌, ℕ, zero, suc, ◌-◌, ◌<◌, ◌≤◌, length, refl, ap, ◌∙◌, ⊎_elim, zero-le, le_refl, le_antisymm, arith}
use Rattle.std.proofs.lemmas.Bool.{cases_lt}
use Rattle.plan.specs.Plans.{FallsTo, holding, cover, depth, breadth, total, greatest}
use Rattle.plan.specs.Known.{single}
use Rattle.plan.specs.Sums.{greatest-le, greatest-is}
use Rattle.plan.specs.Parts.{holds-le, holds-before, holding-late, depth_pos}
use Rattle.plan.specs.Covers.{cover-zero, cover-suc}

pub single-falls : (n : ℕ) → FallsTo n single
single-falls n t l u = omega arith

-- only part s holds step s
single-holding : (k s : ℕ) → holding single k s ≤ 1
unfolding holding total
single-holding zero s = zero-le
single-holding (suc k) s =
    ⊎_elim
    (λ (late : k < s). omega (arith, holding-late single k s late, holds-le single (suc k) s))
    (λ (early : s ≤ k). omega (arith, single-holding k s, holds-before single (suc k) s (omega arith)))
    (cases_lt k s)

pub single-depth : (k : ℕ) → 1 ≤ k → depth single k ≡ 1
unfolding depth
single-depth k l = le_antisymm (greatest-le (holding single k) k 1 (λ s _ _. single-holding k s)) (depth_pos single k (omega arith) l)

single-length : (t : ℕ) → length (cover single t) ≡ t
single-length zero = ap length (cover-zero single)
single-length (suc t) =
    let back : suc t - 1 ≡ t = omega arith in
    ap length (cover-suc single (suc t) (single-falls (suc t)) t (le_refl (suc t)))
    ∙ ap suc (ap (λ (u : ℕ). length (cover single u)) back ∙ single-length t)

pub single-breadth : (k : ℕ) → breadth single k ≡ k
unfolding breadth greatest
single-breadth zero = refl
single-breadth (suc k) =
    greatest-is (λ t. length (cover single t)) (suc k) (suc k) (omega arith) (le_refl (suc k))
    (λ t _ u. omega (arith, single-length t, single-length (suc k)))
    ∙ single-length (suc k)

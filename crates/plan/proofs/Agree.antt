-- Plans that agree up to n have the same covers, depth and breadth there.
use Rattle.std.proofs.Common.{◌≡◌, ℕ, zero, suc, ◌≤◌, cond, ltb, leb, length, refl, ap, le_trans, arith}
use Rattle.plan.specs.Plans.{FallsTo, AgreeTo, holds, holding, cover_in, cover, depth, breadth}
use Rattle.plan.specs.Sums.{greatest-same, total-same}

module _ (p q : ℕ → ℕ) (n : ℕ) (same : AgreeTo n p q) where
  pub holding-same : (k s : ℕ) → k ≤ n → holding p k s ≡ holding q k s
  unfolding holding holds
  holding-same k s h =
      total-same (λ t. holds p t s) (λ t. holds q t s) k
      (λ t l u. ap (λ (b : ℕ). cond (ltb b s) (cond (leb s t) 1 0) 0) (same t l (le_trans u h)))

  pub depth_same : (k : ℕ) → k ≤ n → depth p k ≡ depth q k
  unfolding depth
  depth_same k h = greatest-same (holding p k) (holding q k) k (λ s _ _. holding-same k s h)

  module _ (falls : FallsTo n p) where
    cover_in-same : (m t : ℕ) → t ≤ n → cover_in p m t ≡ cover_in q m t
    unfolding cover_in
    cover_in-same zero t u = refl
    cover_in-same (suc m) zero u = refl
    cover_in-same (suc m) (suc t) u = grind (arith, falls (suc t), cover_in-same m (p (suc t)), same (suc t))

    pub cover-same : (t : ℕ) → t ≤ n → cover p t ≡ cover q t
    unfolding cover
    cover-same t u = cover_in-same t t u

    pub breadth-same : (k : ℕ) → k ≤ n → breadth p k ≡ breadth q k
    unfolding breadth
    breadth-same k h =
        greatest-same (λ t. length (cover p t)) (λ t. length (cover q t)) k (λ t _ u. ap length (cover-same t (le_trans u h)))

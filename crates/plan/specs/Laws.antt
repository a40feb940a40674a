-- What holds of the covers, the depth and the breadth of every plan.
use Rattle.std.specs.Prelude.{◌≡◌, ℕ, ◌+◌, ◌<◌, ◌≤◌, List, [], ◌∷◌, length}
use Rattle.plan.specs.Plans.{horizon, AgreeTo, holds, holding, cover, depth, breadth}

-- the parts of the listed steps lie side by side from step 1 to step t, the newest first: it ends at t, each next one
-- ends at the back step of the one before it, and the last one's back step is 0
abbrev pub SideBySide : (ℕ → ℕ) → ℕ → List ℕ → Type 0
SideBySide p t [] = t ≡ 0
SideBySide p t (u ∷ us) = (u ≡ t) × (p u < u) × SideBySide p (p u) us

-- how many of the parts of the listed steps hold step s
abbrev pub holding_of : (ℕ → ℕ) → List ℕ → ℕ → ℕ
holding_of p [] s = 0
holding_of p (t ∷ ts) s = holds p t s + holding_of p ts s

pub record CoverLaws (p : ℕ → ℕ) : Type 0 where
  pub tiles : (t : ℕ) → t ≤ horizon → SideBySide p t (cover p t)
  pub once : (t s : ℕ) → t ≤ horizon → 1 ≤ s → s ≤ t → holding_of p (cover p t) s ≡ 1
  pub none-later : (t s : ℕ) → t ≤ horizon → t < s → holding_of p (cover p t) s ≡ 0
  pub depth-grows : (j k : ℕ) → j ≤ k → depth p j ≤ depth p k
  pub breadth-grows : (j k : ℕ) → j ≤ k → breadth p j ≤ breadth p k
  pub held-at-most : (k s : ℕ) → holding p k s ≤ depth p k
  pub cover-at-most : (k t : ℕ) → t ≤ k → length (cover p t) ≤ breadth p k
  pub depth-at-most : (k : ℕ) → depth p k ≤ k
  pub breadth-at-most : (k : ℕ) → breadth p k ≤ k
  pub same-cover : (q : ℕ → ℕ) (n : ℕ) → n ≤ horizon → AgreeTo n p q → (t : ℕ) → t ≤ n → cover p t ≡ cover q t
  pub same-depth : (q : ℕ → ℕ) (n : ℕ) → AgreeTo n p q → (k : ℕ) → k ≤ n → depth p k ≡ depth q k
  pub same-breadth : (q : ℕ → ℕ) (n : ℕ) → n ≤ horizon → AgreeTo n p q → (k : ℕ) → k ≤ n → breadth p k ≡ breadth q k

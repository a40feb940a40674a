-- What a plan answers, in range and out of it.
use Rattle.std.proofs.Common.{◌≡◌, ℕ, zero, suc, ◌<◌, ◌≤◌, [], refl, ◌∙◌, arith}
use Rattle.std.proofs.lemmas.Bool.Decides.{nat_tests}
use Rattle.plan.specs.Plans.{horizon, greatest, depth, breadth, cover, within, back_asked, depth_asked, breadth_asked, cover_asked}

pub asked : (k answer : ℕ) → k ≤ horizon → within k answer ≡ answer
asked k answer h = grind (arith, nat_tests)

pub back-asked : (p : ℕ → ℕ) (t : ℕ) → 1 ≤ t → t ≤ horizon → back_asked p t ≡ p t
back-asked p t l h = grind (arith, nat_tests)

-- what an answer tells of the plan
pub back_is : (p : ℕ → ℕ) (t r : ℕ) → 1 ≤ t → t ≤ horizon → r ≡ back_asked p t → r ≡ p t
back_is p t r l h e = e ∙ back-asked p t l h

pub depth_is : (p : ℕ → ℕ) (k r : ℕ) → k ≤ horizon → r ≡ depth_asked p k → r ≡ depth p k
depth_is p k r h e = e ∙ asked k (depth p k) h

pub breadth-is : (p : ℕ → ℕ) (k r : ℕ) → k ≤ horizon → r ≡ breadth_asked p k → r ≡ breadth p k
breadth-is p k r h e = e ∙ asked k (breadth p k) h

pub cover-asked : (p : ℕ → ℕ) (t : ℕ) → t ≤ horizon → cover_asked p t ≡ cover p t
cover-asked p t h = grind (arith, nat_tests)

pub cover-beyond : (p : ℕ → ℕ) (t : ℕ) → horizon < t → cover_asked p t ≡ []
cover-beyond p t h = grind (arith, nat_tests)

pub depth-none : (p : ℕ → ℕ) (k : ℕ) → (1 ≤ k → horizon < k) → depth_asked p k ≡ 0
unfolding depth greatest
depth-none p zero h = refl
depth-none p (suc k) h = let past = h (omega arith) in grind (arith, nat_tests)

pub depth-zero : (p : ℕ → ℕ) → depth p 0 ≡ 0
unfolding depth greatest
depth-zero p = refl

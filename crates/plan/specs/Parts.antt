-- Which parts hold a step, and how many: the laws of `holds`, `holding` and `depth`, for any back steps.
use Rattle.std.specs.Prelude.{◌≡◌, ℕ, zero, suc, ◌<◌, ◌≤◌, cond, nat_le, nat_lt, refl}
use Rattle.std.proofs.Common.{◌∙◌, le_of_eq, lt_of_le_of_lt, arith}
use Rattle.std.proofs.Math.Path.{subst}
use Rattle.std.proofs.Math.Logic.{⊎_elim}
use Prim.Native.Nat.{zero-le}
use Rattle.std.proofs.Math.Nat.{le_refl, le_trans}
use Rattle.std.proofs.lemmas.Bool.{cond-true, cond-false, cond_both, lt-ltb, le-ltb, le-leb, lt-leb, cases_lt}
use Rattle.plan.specs.Plans.{holds, holding, depth, total}
use Rattle.plan.specs.Sums.{greatest-le, le-greatest, greatest-grows, total-none, total-le, le_total, total-grows}

module _ (p : ℕ → ℕ) where
  pub holds-inside : (t s : ℕ) → p t < s → s ≤ t → holds p t s ≡ 1
  unfolding holds
  holds-inside t s a b = cond-true (nat_lt (p t) s) (cond (nat_le s t) 1 0) 0 (lt-ltb (p t) s a) ∙ cond-true (nat_le s t) 1 0 (le-leb s t b)

  pub holds-before : (t s : ℕ) → s ≤ p t → holds p t s ≡ 0
  unfolding holds
  holds-before t s h = cond-false (nat_lt (p t) s) (cond (nat_le s t) 1 0) 0 (le-ltb (p t) s h)

  pub holds_after : (t s : ℕ) → t < s → holds p t s ≡ 0
  unfolding holds
  holds_after t s h =
      cond_both (nat_lt (p t) s) (cond (nat_le s t) 1 0) 0 (λ (x : ℕ). x ≡ 0) (λ _. cond-false (nat_le s t) 1 0 (lt-leb s t h)) (λ _. refl)

  pub holds-le : (t s : ℕ) → holds p t s ≤ 1
  unfolding holds
  holds-le t s =
      cond_both (nat_lt (p t) s) (cond (nat_le s t) 1 0) 0 (λ (x : ℕ). x ≤ 1)
      (λ _. cond_both (nat_le s t) 1 0 (λ (x : ℕ). x ≤ 1) (λ _. le_refl 1) (λ _. zero-le)) (λ _. zero-le)

  -- a step beyond k lies in none of the parts 1 to k, and step 0 in no part
  pub holding-late : (k s : ℕ) → k < s → holding p k s ≡ 0
  unfolding holding
  holding-late k s h = total-none (λ t. holds p t s) k (λ t l u. holds_after t s (lt_of_le_of_lt u h))

  pub holding-zero : (k : ℕ) → holding p k 0 ≡ 0
  unfolding holding
  holding-zero k = total-none (λ t. holds p t 0) k (λ t l u. holds-before t 0 zero-le)

  pub holding-le : (k s : ℕ) → holding p k s ≤ k
  unfolding holding
  holding-le k s = total-le (λ t. holds p t s) k (λ t. holds-le t s)

  pub holding-grows : (j k s : ℕ) → j ≤ k → holding p j s ≤ holding p k s
  unfolding holding
  holding-grows j k s h = total-grows (λ t. holds p t s) j k h

  -- at most `depth p k` of the parts 1 to k hold one step
  pub holding-depth : (k s : ℕ) → holding p k s ≤ depth p k
  unfolding depth
  holding-depth k zero = le_trans (le_of_eq (holding-zero k)) zero-le
  holding-depth k (suc s) =
      ⊎_elim
      (λ (late : k < suc s). le_trans (le_of_eq (holding-late k (suc s) late)) zero-le)
      (λ (u : suc s ≤ k). le-greatest (holding p k) k (suc s) (omega arith) u)
      (cases_lt k (suc s))

  pub depth-grows : (j k : ℕ) → j ≤ k → depth p j ≤ depth p k
  unfolding depth
  depth-grows j k h = greatest-grows (holding p j) (holding p k) j k h (λ s _ _. holding-grows j k s h)

  pub depth_le : (k : ℕ) → depth p k ≤ k
  unfolding depth
  depth_le k = greatest-le (holding p k) k k (λ s _ _. holding-le k s)

  -- part 1 holds step 1
  pub holding-first : (k : ℕ) → p 1 < 1 → 1 ≤ k → 1 ≤ holding p k 1
  unfolding holding
  holding-first k h l = subst (λ (x : ℕ). x ≤ total (λ t. holds p t 1) k) (holds-inside 1 1 h (le_refl 1)) (le_total (λ t. holds p t 1) k 1 (le_refl 1) l)

  pub depth_pos : (k : ℕ) → p 1 < 1 → 1 ≤ k → 1 ≤ depth p k
  depth_pos k h l = le_trans (holding-first k h l) (holding-depth k 1)

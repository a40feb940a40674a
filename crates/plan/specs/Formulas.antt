-- The known plans in closed form, for every step. Here j is a logarithm to base 2, rounded down.
use Rattle.std.specs.Prelude.{◌≡◌, ℕ, ◌+◌, ◌%◌, ◌^◌, ◌<◌, ◌≤◌}
use Rattle.plan.specs.Plans.{depth, breadth}
use Rattle.plan.specs.Known.{single, dyadic}

pub record Formulas : Type 0 where
  pub single-depth : (k : ℕ) → 1 ≤ k → depth single k ≡ 1
  pub single-breadth : (k : ℕ) → breadth single k ≡ k
  pub dyadic-depth : (j k : ℕ) → 2 ^ j ≤ k → k < 2 ^ (j + 1) → depth dyadic k ≡ j + 1
  pub dyadic-breadth : (j k : ℕ) → 2 ^ j ≤ k + 1 → k + 1 < 2 ^ (j + 1) → breadth dyadic k ≡ j
  -- what a dyadic step goes back by is a power of two that divides it, and no greater one does
  pub dyadic-back : (t : ℕ) → 1 ≤ t → (j : ℕ) × (t ≡ dyadic t + 2 ^ j) × (t % 2 ^ j ≡ 0) × ((i : ℕ) → t % 2 ^ i ≡ 0 → i ≤ j)

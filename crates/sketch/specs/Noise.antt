-- The noise of an epoch: each step t draws one cell of the tape, the first step the first cell, and its noise is the sum
-- of the cells of the steps whose parts are its cover.
use Rattle.std.specs.Prelude.{◌≡◌, ℕ, zero, suc, ◌+◌, ◌-◌, ◌≤◌, cond, List, [], ◌∷◌, ◌++◌, get_or, ℤ, pos, ◌+ℤ◌, ◌==◌, slice_index_or}
use Rattle.plan.specs.Plans.{horizon, cover}
use Rattle.sketch.specs.declared.Step.{Step}

-- the cell of step t
abbrev pub cell_of : List ℤ → ℕ → ℤ
cell_of cells t = slice_index_or cells (t - 1) (pos 0)

-- the cells of the listed steps together
abbrev pub sum_of : List ℤ → List ℕ → ℤ
sum_of cells [] = pos 0
sum_of cells (t ∷ ts) = cell_of cells t +ℤ sum_of cells ts

unfoldable pub noise_of : (ℕ → ℕ) → List ℤ → ℕ → ℤ
noise_of p cells t = sum_of cells (cover p t)

-- the same, step by step: each noise is that of the back step and one cell more
pub record NoiseLaws (p : ℕ → ℕ) (cells : List ℤ) : Type 0 where
  pub none : noise_of p cells 0 ≡ pos 0
  pub more : (t : ℕ) → 1 ≤ t → t ≤ horizon → noise_of p cells t ≡ cell_of cells t +ℤ noise_of p cells (p t)

-- step t as a sketch shows it
abbrev pub step_of : (ℕ → ℕ) → List ℤ → ℕ → Step
step_of p cells t = record { number = t; first = p t + 1; cell = cell_of cells t; noise = noise_of p cells t }

-- the steps 1 to n
unfoldable pub steps_to : (ℕ → ℕ) → List ℤ → ℕ → List Step
steps_to p cells zero = []
steps_to p cells (suc n) = steps_to p cells n ++ step_of p cells (suc n) ∷ []

abbrev pub no_step : Step
no_step = record { number = 0; first = 0; cell = pos 0; noise = pos 0 }

-- the noise at step t by a list of the steps from 1 on
abbrev pub noise_after : List Step → ℕ → ℤ
noise_after steps t = cond (t == 0) (pos 0) (get_or steps (t - 1) no_step).noise

-- the step after the first n, from its back step and its cell
abbrev pub step_from : List Step → ℕ → ℕ → ℤ → Step
step_from steps n back cell = record { number = n + 1; first = back + 1; cell = cell; noise = cell +ℤ noise_after steps back }

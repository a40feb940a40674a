-- What a draw gives, and the list of the steps, one step on.
use Rattle.std.proofs.Common.{◌≡◌, ℕ, zero, suc, ◌+◌, ◌*◌, ◌^◌, ◌<◌, ◌≤◌, List, [], ◌∷◌, ◌++◌, length, get_or, take, drop, ℤ, pos, Ok, Err, sym, refl, ap, ◌∙◌, zero-le, not-suc-le-zero, add-one, arith, w32, SFits}
use Rattle.std.proofs.Math.Seq.{take-length}
use Rattle.std.proofs.lemmas.List.{drop_more, drop_all, get_or-take, length_push}
use Rattle.std.proofs.lemmas.Grind.{common_steps}
use lib.Signed.{mag}
use Rattle.std.specs.List.{AllByRecursion}
use Rattle.fault.specs.declared.Fault.{Fault}
use Rattle.plan.specs.Plans.{horizon, Falls, back_asked}
use Rattle.plan.proofs.Asked.{back_is}
use Rattle.tape.specs.Tapes.{drawn, undrawn}
use Rattle.sketch.specs.declared.Step.{Step}
use Rattle.sketch.specs.Noise.{cell_of, noise_of, step_of, steps_to, no_step, noise_after, step_from}
use Rattle.sketch.proofs.Noises.{noise-none, noise-more, noise-small}

-- the tape after n draws has the cells but the first n
module _ (cells : List ℤ) (n : ℕ) where
  drew : (cell : ℤ) → Ok cell ≡ drawn (drop n cells) → (n < length cells) × (cell ≡ cell_of cells (n + 1)) × (undrawn (drop n cells) ≡ drop (n + 1) cells)
  drew cell d = grind (arith, drop_more cells n (pos 0), drop_all n cells)

  drew_none : (e : Fault) → Err e ≡ drawn (drop n cells) → (length cells ≤ n) × (undrawn (drop n cells) ≡ drop n cells)
  drew_none e d = grind (arith, drop_more cells n (pos 0), drop_all n cells)

module _ (p : ℕ → ℕ) (cells : List ℤ) where
  steps-more : (n : ℕ) → steps_to p cells (n + 1) ≡ steps_to p cells n ++ step_of p cells (n + 1) ∷ []
  unfolding steps_to
  steps-more n = rw (add-one n) refl

  length-steps : (n : ℕ) → length (steps_to p cells n) ≡ n
  unfolding steps_to
  length-steps zero = refl
  length-steps (suc n) = let rest = length-steps n in grind (arith, common_steps)

  step-at : (n k : ℕ) → k < n → get_or (steps_to p cells n) k no_step ≡ step_of p cells (k + 1)
  unfolding steps_to
  step-at zero k h = absurd (not-suc-le-zero h)
  step-at (suc n) k h = grind (arith, common_steps, step-at n k, length-steps n)

  -- the first n of the listed steps are the steps 1 to n
  module _ (n : ℕ) (steps : List Step) (e : take n steps ≡ steps_to p cells n) where
    read_at : (k : ℕ) → k < n → get_or steps k no_step ≡ step_of p cells (k + 1)
    read_at k h = sym (get_or-take n steps k no_step h) ∙ rw e (step-at n k h)

    noise-read : (t : ℕ) → t ≤ n → noise_after steps t ≡ noise_of p cells t
    noise-read zero h = sym (noise-none p cells)
    noise-read (suc t) h = grind (arith, read_at t)

    pub noise-fits : AllByRecursion (SFits w32) cells → n ≤ horizon → (t : ℕ) → t ≤ n → mag (noise_after steps t) < 2 ^ 62
    noise-fits fits u t h =
        let small : mag (noise_of p cells t) ≤ 2 ^ 31 * t = noise-small p cells fits t in
        rw (noise-read t h) (omega arith)

  -- The steps before step `next` are listed, each with its cell, and these cells are left.
  pub record HasDrawn (next : ℕ) (steps : List Step) (left : List ℤ) : Type 0 where
    pub counted : next ≡ length steps + 1
    pub few : length steps ≤ length cells
    pub left_is : left ≡ drop (length steps) cells
    pub steps_are : steps ≡ steps_to p cells (length steps)

  pub drawn-nil : HasDrawn 1 [] cells
  unfolding steps_to
  drawn-nil = record { counted = refl; few = zero-le; left_is = refl; steps_are = refl }

  module _ (next : ℕ) (steps : List Step) (left : List ℤ) (so_far : HasDrawn next steps left) where
    pub drawn_ends : (e : Fault) → Err e ≡ drawn left → (length cells ≡ length steps) × (undrawn left ≡ drop (length steps) cells)
    drawn_ends e d =
        let few = so_far.few in
        let is = so_far.left_is in
        let none = drew_none cells (length steps) e (rw is at d) in
        (omega arith, rw is none.1)

    -- the next step, which goes back to b
    module _ (falls : Falls p) (u : next ≤ horizon) (b : ℕ) (asked : b ≡ back_asked p next) where
      back : b ≡ p (length steps + 1)
      back = let counted = so_far.counted in rw counted at (back_is p next b (omega arith) u asked)

      pub earlier : b ≤ length steps
      earlier =
          let counted = so_far.counted in
          let less : p (length steps + 1) < length steps + 1 = falls _ (omega arith) (omega arith) in
          omega (arith, back)

      pub drawn_on : (cell z : ℤ) (steps' : List Step) (left' : List ℤ) → Ok cell ≡ drawn left → left' ≡ undrawn left → z ≡ cell
          → steps' ≡ steps ++ step_from steps (length steps) b z ∷ [] → HasDrawn (next + 1) steps' left'
      drawn_on cell z steps' left' d moved same e =
          let n = length steps in
          let counted = so_far.counted in
          let are = so_far.steps_are in
          let all : take (length steps) steps ≡ steps_to p cells (length steps) = take-length steps ∙ are in
          let is = so_far.left_is in
          let drawn_cell = drew cells n cell (rw is at d) in
          let size : length steps' ≡ n + 1 = ap length e ∙ length_push steps _ in
          let noise = noise-read n steps all b earlier in
          let more = noise-more p cells falls (n + 1) (omega arith) (omega arith) in
          let list = steps-more n in
          let at = back in
          record { counted = omega arith; few = omega arith; left_is = cc; steps_are = cc }

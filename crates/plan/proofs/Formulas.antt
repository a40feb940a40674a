-- The closed forms of the known plans.
use Rattle.std.proofs.Common.{ℕ, ◌+◌, ◌*◌, ◌^◌, ◌<◌, add-one}
use native.Mathlib.Nat.{pow-succ'}
use Rattle.plan.specs.Known.{dyadic}
use Rattle.plan.specs.Formulas.{Formulas}
use Rattle.plan.specs.Singles.{single-depth, single-breadth}
use Rattle.plan.specs.Halving.{halves-depth, halves-breadth}
use Rattle.plan.specs.Dyadics.{dyadic-halves, dyadic-takes}

next_power : (j k : ℕ) → k < 2 ^ (j + 1) → k < 2 * 2 ^ j
next_power j k h = rw (add-one, pow-succ') at h

pub formulas : Formulas
formulas = record {
  single-depth = single-depth;
  single-breadth = single-breadth;
  dyadic-depth = λ j k a b. halves-depth dyadic dyadic-halves j k a (next_power j k b);
  dyadic-breadth = λ j k a b. halves-breadth dyadic dyadic-halves j k a (next_power j (k + 1) b);
  dyadic-back = dyadic-takes;
}

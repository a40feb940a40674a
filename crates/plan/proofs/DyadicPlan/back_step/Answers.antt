use Rattle.std.proofs.Common.{arith}
use Rattle.plan.specs.Dyadics.{dyadic-clears}
use Rattle.plan.proofs.DyadicPlan.back_step.Goals as goal

pub returns-in-1-to-1024 : goal.returns-in-1-to-1024
returns-in-1-to-1024 c = grind (arith, dyadic-clears)

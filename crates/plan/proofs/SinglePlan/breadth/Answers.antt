use Rattle.std.proofs.Common.{arith}
use Rattle.plan.specs.Singles.{single-breadth}
use Rattle.plan.proofs.SinglePlan.breadth.Goals as goal

pub returns-in-0-to-1024 : goal.returns-in-0-to-1024
returns-in-0-to-1024 c = grind (arith, single-breadth)

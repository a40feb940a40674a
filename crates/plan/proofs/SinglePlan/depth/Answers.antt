use Rattle.std.proofs.Common.{arith}
use Rattle.plan.specs.Known.{single}
use Rattle.plan.specs.Singles.{single-depth}
use Rattle.plan.proofs.Asked.{depth-zero}
use Rattle.plan.proofs.SinglePlan.depth.Goals as goal

pub returns-in-1-to-1024 : goal.returns-in-1-to-1024
returns-in-1-to-1024 c = grind (arith, single-depth)

pub returns-in_default : goal.returns-in_default
returns-in_default c = grind (arith, depth-zero single)

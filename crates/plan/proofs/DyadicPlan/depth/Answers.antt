use Rattle.std.proofs.Common.{arith}
use Rattle.plan.specs.Known.{dyadic}
use Rattle.plan.specs.Dyadics.{dyadic-halves}
use Rattle.plan.specs.Halving.{halves-depth}
use Rattle.plan.proofs.Asked.{depth-zero}
use Rattle.plan.proofs.DyadicPlan.depth.Goals as goal

pub returns-in-1-to-1024 : goal.returns-in-1-to-1024
returns-in-1-to-1024 c =
    let log = c.ilog2.ensures in
    grind (arith, halves-depth dyadic dyadic-halves c.ilog2.result c.args.k log.power_le log.next_power_gt)

pub returns-in_default : goal.returns-in_default
returns-in_default c = grind (arith, depth-zero dyadic)

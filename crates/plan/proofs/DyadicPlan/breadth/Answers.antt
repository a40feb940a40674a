use Rattle.std.proofs.Common.{arith}
use Rattle.plan.specs.Known.{dyadic}
use Rattle.plan.specs.Dyadics.{dyadic-halves}
use Rattle.plan.specs.Halving.{halves-breadth}
use Rattle.plan.proofs.DyadicPlan.breadth.Goals as goal

pub returns-in-0-to-1024 : goal.returns-in-0-to-1024
returns-in-0-to-1024 c =
    let log = c.ilog2.ensures in
    grind (arith, halves-breadth dyadic dyadic-halves c.ilog2.result c.args.k log.power_le log.next_power_gt)

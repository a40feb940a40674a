use Rattle.std.proofs.Common.{refl}
use Rattle.plan.specs.Plans.{total, greatest, holds, holding, cover_in, cover, depth, breadth}
use Rattle.plan.specs.Known.{power_in, dyadic}
use Rattle.plan.proofs.examples_stand.Goals as goal

pub returns : goal.returns
unfolding total greatest holds holding cover_in cover depth breadth power_in dyadic
returns c = (refl, refl, refl, refl, refl, refl, refl, refl)

use Rattle.std.proofs.Common.{refl}
use Rattle.plan.specs.Plans.{holds, holding, total, greatest, depth}
use Rattle.plan.specs.Known.{dyadic, power_in}
use Rattle.publishing.specs.Examples.{WorkedPublication}
use Rattle.publishing.proofs.worked_publication_stands.Goals as goal

worked : WorkedPublication
unfolding dyadic power_in depth greatest holding total holds
worked = refl

pub returns : goal.returns
returns c = worked

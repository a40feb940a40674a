-- The worked publication.
use Rattle.std.proofs.Common.{refl}
use Rattle.plan.specs.Plans.{holds, holding, total, greatest, depth}
use Rattle.plan.specs.Known.{dyadic, power_in}
use Rattle.publishing.specs.Cases.{WorkedWhole}

pub worked-whole : WorkedWhole
unfolding dyadic power_in depth greatest holding total holds
worked-whole = record { bytes = refl }

-- The worked examples of every layer.
use Rattle.std.proofs.Common.{refl}
use lib.Count.{ones_in}
use Rattle.plan.specs.Plans.{total, greatest, holds, holding, cover_in, cover, depth, breadth}
use Rattle.plan.specs.Known.{power_in, dyadic}
use Rattle.plan.specs.Examples as plan
use Rattle.runs.proofs.Examples.{worked-pair, worked-run}
use Rattle.tape.specs.Examples as tape
use Rattle.finisher.specs.Examples as finisher
use Rattle.station.specs.Examples.{WorkedExamples}

plans : plan.Examples
unfolding total greatest holds holding cover_in cover depth breadth power_in dyadic
plans = (refl, refl, refl, refl, refl, refl, refl, refl)

tapes : tape.WorkedTapes
unfolding ones_in
tapes = (refl, refl, refl)

finishers : finisher.WorkedFinishers
finishers = refl

pub worked-examples : WorkedExamples
worked-examples = record { plans = plans; tapes = tapes; finishers = finishers; run = worked-run; pair = worked-pair }

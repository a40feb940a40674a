-- Each back step of a plan that a number names lies below its step.
use Rattle.plan.specs.Plans.{horizon, Falls}
use Rattle.plan.specs.Choice.{back_of}
use Rattle.plan.specs.Singles.{single-falls}
use Rattle.plan.specs.Dyadics.{dyadic-falls}
use Rattle.plan.specs.declared.Chosen.{Chosen}
use Rattle.plan.specs.declared.Chosen.TheVariants.{Single, Dyadic}

pub chosen-falls : (plan : Chosen) → Falls (back_of plan)
chosen-falls Single = single-falls horizon
chosen-falls Dyadic = dyadic-falls horizon

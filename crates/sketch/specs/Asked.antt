-- The horizon that a number names: itself, where a plan speaks of that step.
use Rattle.std.specs.Prelude.{ℕ, cond, ◌&&◌, Ok, Err, Result, nat_le}
use Rattle.fault.specs.declared.Fault.{Fault}
use Rattle.fault.specs.declared.Cause.TheVariants.{Horizon}
use Rattle.fault.specs.declared.Layer.TheVariants.{Station}
use Rattle.plan.specs.Plans.{horizon}

abbrev pub horizon_asked : ℕ → Result ℕ Fault
horizon_asked n = cond (nat_le 1 n && nat_le n horizon) (Ok n) (Err (record { cause = Horizon n; layer = Station }))

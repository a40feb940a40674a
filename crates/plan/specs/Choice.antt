-- The plans that a number names: 1 the single plan, 2 the dyadic one. Any other number is out of range.
use Rattle.std.specs.Prelude.{ℕ, cond, Ok, Err, Result, ◌==◌}
use Rattle.fault.specs.declared.Fault.{Fault}
use Rattle.fault.specs.declared.Cause.TheVariants.{OutOfRange}
use Rattle.fault.specs.declared.Layer.TheVariants.{Plan}
use Rattle.plan.specs.declared.Chosen.{Chosen}
use Rattle.plan.specs.declared.Chosen.TheVariants.{Single, Dyadic}
use Rattle.plan.specs.Known.{single, dyadic}

abbrev pub back_of : Chosen → ℕ → ℕ
back_of Single = single
back_of Dyadic = dyadic

abbrev pub choice : ℕ → Result Chosen Fault
choice n = cond (n == 1) (Ok Single) (cond (n == 2) (Ok Dyadic) (Err (record { cause = OutOfRange n; layer = Plan })))

-- where none is named
abbrev pub default_plan : Chosen
default_plan = Dyadic

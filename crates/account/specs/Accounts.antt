-- What an account's calls answer and leave.
use Rattle.std.specs.Prelude.{ℕ, ◌+◌, ◌-◌, min, cond, Ok, Err, Result, nat_lt}
use Rattle.fault.specs.declared.Fault.{Fault}
use Rattle.fault.specs.declared.Cause.TheVariants.{OutOfRange, OverBudget}
use Rattle.fault.specs.declared.Layer.TheVariants.{Account}

-- the most units that can be granted
abbrev pub grant_limit : ℕ
grant_limit = 1000000

abbrev pub grant_refused : ℕ → Fault
grant_refused grant = record { cause = OutOfRange grant; layer = Account }

abbrev pub hold_refused : ℕ → Fault
hold_refused units = record { cause = OverBudget units; layer = Account }

-- the answer to a hold of units
abbrev pub holding : ℕ → ℕ → Result (Unit {0}) Fault
holding free units = cond (nat_lt free units) (Err (hold_refused units)) (Ok tt)

-- the units held after a hold of units
abbrev pub held_after : ℕ → ℕ → ℕ → ℕ
held_after free held units = cond (nat_lt free units) held (held + units)

-- a settlement ends a hold of units, of which some are spent: no more units than are held, and no more spent than end
abbrev pub held_settled : ℕ → ℕ → ℕ
held_settled held units = held - min units held

abbrev pub spent_settled : ℕ → ℕ → ℕ → ℕ → ℕ
spent_settled spent held units used = spent + min used (min units held)

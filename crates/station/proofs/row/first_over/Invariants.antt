use Rattle.std.proofs.Common.{◌≡◌, ◌+◌, drop}
use Rattle.runs.specs.Model.{first_above}
use Rattle.station.proofs.row.first_over.Given as goal

abbrev pub invariant-loop-class : goal.invariant-loop-class
invariant-loop-class l = first_above l.row ≡ l.class + first_above (drop l.class l.row)

use Rattle.std.proofs.Common.{take}
use Rattle.std.specs.List.{All}
use Rattle.station.proofs.Rows.{Fresh}
use Rattle.station.proofs.table.Table.clear.Given as goal

abbrev pub invariant-loop-lane : goal.invariant-loop-lane
invariant-loop-lane l = All Fresh (take l.lane-index l.lane-items)

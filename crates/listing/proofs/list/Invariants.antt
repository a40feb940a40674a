use Rattle.std.proofs.Common.{length}
use Rattle.listing.proofs.Sums.{Going}
use Rattle.listing.proofs.list.Given as goal

abbrev pub invariant-loop-rest : goal.invariant-loop-rest
invariant-loop-rest g l = Going l.summary l.rest l.bytes

abbrev pub decreases-loop-rest : goal.decreases-loop-rest
decreases-loop-rest g l = length l.rest

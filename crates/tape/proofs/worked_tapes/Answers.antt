use lib.Count.{ones_in}
use Rattle.std.proofs.Common.{refl}
use Rattle.tape.proofs.worked_tapes.Goals as goal

pub returns : goal.returns
unfolding ones_in
returns c = (refl, refl, refl)

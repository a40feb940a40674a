use Rattle.tape.proofs.Cells.{length-byte-cells}
use Rattle.tape.proofs.ByteTapeTape.left.Goals as goal

pub returns : goal.returns
returns c = length-byte-cells c.args.self.now.bytes.now

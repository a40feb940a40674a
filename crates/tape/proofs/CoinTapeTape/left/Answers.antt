use Rattle.tape.proofs.Cells.{length-coin-cells}
use Rattle.tape.proofs.CoinTapeTape.left.Goals as goal

pub returns : goal.returns
returns c = length-coin-cells c.args.self.now.bytes.now

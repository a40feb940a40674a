use Rattle.std.proofs.Common.{◌≤◌, length, rules}
use Rattle.tape.proofs.Cells.{coin-cells-some}
use Rattle.tape.proofs.CoinTapeTape.draw.Goals as goal

pub returns-clause-moved : goal.returns-clause-moved
returns-clause-moved c =
    let h : 8 ≤ length c.args.self.now.bytes.now = search rules in
    let e = coin-cells-some c.args.self.now.bytes.now h in
    search (rules, e)

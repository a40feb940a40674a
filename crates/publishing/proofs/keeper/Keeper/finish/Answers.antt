use Rattle.std.proofs.Common.{rules}
use Rattle.station.specs.View.{view_of}
use Rattle.publishing.proofs.Going.{closing-wrote}
use Rattle.publishing.proofs.keeper.Keeper.finish.Goals as goal

pub returns-in-Ok : goal.returns-in-Ok
returns-in-Ok g c =
    let s = view_of g.P.Plan.back g.T.Tape.cells g.F.Finisher.says c.args.self.now.station in
    closing-wrote s _ _ _ _ _ c.in-Ok.ensures.reply (search rules)

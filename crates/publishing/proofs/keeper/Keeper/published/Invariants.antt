use Rattle.runs.specs.Model.{lane_at}
use Rattle.station.specs.View.{view_of}
use Rattle.publishing.proofs.Tallies.{Stored}
use Rattle.publishing.proofs.keeper.Keeper.published.Given as goal

abbrev pub invariant-loop-class : goal.invariant-loop-class
invariant-loop-class g l =
    Stored (λ class. (lane_at (view_of g.P.Plan.back g.T.Tape.cells g.F.Finisher.says l.self.station) class).published) l.class l.counts.items

use Rattle.station.specs.View.{view_of}
use Rattle.publishing.proofs.Going.{Going}
use Rattle.publishing.proofs.keeper.Keeper.answer_rest.Given as goal

abbrev pub invariant-loop-event : goal.invariant-loop-event
invariant-loop-event g l =
    Going (view_of g.P.Plan.back g.T.Tape.cells g.F.Finisher.says l.initial.self.station) l.initial.work l.initial.out l.events
    (view_of g.P.Plan.back g.T.Tape.cells g.F.Finisher.says l.self.station) l.work l.out l.rest l.event

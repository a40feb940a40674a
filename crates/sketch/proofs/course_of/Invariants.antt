use Rattle.std.proofs.Common.{◌+◌, ◌≤◌, min}
use Rattle.plan.specs.Plans.{horizon}
use Rattle.sketch.proofs.Turns.{HasDrawn}
use Rattle.sketch.proofs.course_of.Given as goal

abbrev pub invariant-loop-number : goal.invariant-loop-number
invariant-loop-number g l =
    (l.number ≤ min l.steps horizon + 1) × HasDrawn (g.P.Plan.back l.plan) (g.T.Tape.cells l.initial.tape) l.number l.course.steps.items (g.T.Tape.cells l.tape)

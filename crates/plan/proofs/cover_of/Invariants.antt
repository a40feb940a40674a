use Rattle.std.proofs.Common.{◌≡◌, ◌+◌, ◌≤◌, ◌++◌, length}
use Rattle.plan.specs.Plans.{horizon, cover, cover_asked}
use Rattle.plan.proofs.cover_of.Given as goal

abbrev pub invariant-loop-at : goal.invariant-loop-at
invariant-loop-at g l =
    let p = g.P.Plan.back l.plan in
    (length l.steps.items + l.at ≤ horizon) × (l.steps.items ++ cover p l.at ≡ cover_asked p l.t)

abbrev pub decreases-loop-at : goal.decreases-loop-at
decreases-loop-at g l = l.at

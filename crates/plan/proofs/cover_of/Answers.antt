use Rattle.std.proofs.Common.{◌≡◌, ◌<◌, ◌≤◌, arith}
use Rattle.std.proofs.lemmas.Grind.{common_steps}
use Rattle.plan.specs.Plans.{horizon}
use Rattle.plan.proofs.Asked.{back_is}
use Rattle.plan.specs.Covers.{cover-zero, cover-step}
use Rattle.plan.proofs.Laws.{cover-laws}
use Rattle.plan.proofs.cover_of.Goals as goal

pub loop-at-init : goal.loop-at-init
loop-at-init g c = grind (arith, common_steps, cover-zero (g.P.Plan.back c.args.plan.now))

pub loop-at-preserved : goal.loop-at-preserved
loop-at-preserved g c =
    let p = g.P.Plan.back c.args.plan.now in
    let falls = g.met.P.Plan.falls c.args.plan.now in
    let at = c.loop-at.at in
    let low : 1 ≤ at = omega arith in
    let high : at ≤ horizon = omega arith in
    let back : c.back_step-at.result ≡ p at = back_is p at c.back_step-at.result low high c.back_step-at.ensures in
    let less : p at < at = falls at low high in
    let step = cover-step p horizon falls at low high in
    grind (arith, common_steps)

pub returns-clause-steps : goal.returns-clause-steps
returns-clause-steps g c = grind (arith, common_steps, cover-zero (g.P.Plan.back c.args.plan.now))

pub returns-clause-laws : goal.returns-clause-laws
returns-clause-laws g c = cover-laws (g.P.Plan.back c.args.plan.now) (g.met.P.Plan.falls c.args.plan.now)

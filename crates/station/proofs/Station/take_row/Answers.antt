use Rattle.std.proofs.Common.{◌≡◌, ℕ, ◌+◌, ◌<◌, ap, ◌∙◌, arith}
use Rattle.plan.specs.Plans.{back_asked}
use Rattle.station.proofs.Phasing.{epoch-is, back_low}
use Rattle.station.proofs.Serving.{all_small}
use Rattle.station.proofs.Station.take_row.Goals as goal

pub take_row-requires-clause-back : goal.take_row-requires-clause-back
take_row-requires-clause-back g c =
    let limited = c.args.self.now.limited in
    let epoch = epoch-is c.args.self.now.phase in
    let more = c.requires.3 in
    let room : c.args.self.now.table.steps < 1024 = omega arith in
    let low = back_low (g.P.Plan.back c.args.self.now.plan) (g.met.P.Plan.falls c.args.self.now.plan) c.args.self.now.table.steps room in
    let asked : c.from-back.result ≡ back_asked (g.P.Plan.back c.args.self.now.plan) (c.args.self.now.table.steps + 1) =
    c.from-back.ensures ∙ c.back_step.ensures ∙ ap (λ (n : ℕ). back_asked (g.P.Plan.back c.args.self.now.plan) (n + 1)) c.steps.ensures in
    rw asked low

pub take_row-requires-clause-small : goal.take_row-requires-clause-small
take_row-requires-clause-small g c = all_small c.args.row.now c.requires.2

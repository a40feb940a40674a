use Rattle.std.proofs.Common.{◌≤◌, length, replicate, sym, ap, ◌∙◌, arith, rules}
use Rattle.std.specs.List.{All}
use Rattle.std.proofs.lemmas.List.{length-take-le, take_all}
use Rattle.std.proofs.lemmas.List.Elements.{All-same}
use Rattle.runs.specs.Model.{empty_lane}
use Rattle.station.proofs.Rows.{Fresh, fresh-lanes, written-front}
use Rattle.station.proofs.table.Table.clear.Goals as goal

pub returns-clause-lanes : goal.returns-clause-lanes
returns-clause-lanes c =
    let some = c.args.self.now.some in
    let room : c.args.self.now.classes ≤ length c.args.self.now.lanes = search rules in
    let all = c.loop-lane.lane-items in
    let long = c.loop-lane.auto.lane-items in
    let fresh : All Fresh c.loop-lane.lane-items = All-same Fresh _ _ (sym (take_all c.loop-lane.lane-index all (omega arith))) c.loop-lane.invariant in
    rw (written-front c.args.self.now.classes c.args.self.now.lanes all room long)
    (fresh-lanes all fresh ∙ ap (λ n. replicate n empty_lane) (long ∙ length-take-le c.args.self.now.classes c.args.self.now.lanes room))

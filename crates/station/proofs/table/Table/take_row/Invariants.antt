use Rattle.std.proofs.Common.{◌≡◌, map, drop}
use Rattle.runs.specs.Model.{all_advanced, release, says_after}
use Rattle.station.specs.Lanes.{lanes_of, published_by}
use Rattle.station.proofs.Rows.{Comes, Uneven, ahead}
use Rattle.station.proofs.table.Table.take_row.Given as goal

abbrev pub invariant-loop-class : goal.invariant-loop-class
invariant-loop-class g l =
    let says = g.F.Finisher.says l.finisher in
    let begun = g.F.Finisher.says l.initial.finisher in
    let all = all_advanced l.back (lanes_of l.initial.lane-items) l.row (g.T.Tape.cells l.initial.tape) in
    record {
      comes : Comes (published_by begun 0 all) (says_after begun 0 (map release all)) says l.lane-items l.class (ahead l.back l.class l.lane-items l.row (g.T.Tape.cells l.tape));
      drawn : g.T.Tape.cells l.tape ≡ drop l.class (g.T.Tape.cells l.initial.tape);
      uneven : Uneven l.fn.self.steps l.class l.lane-items;
    }

use Rattle.std.proofs.Common.{◌≡◌, ◌+◌, ◌<◌, ◌≤◌, [], map, length, get_or, take, ℤ, pos, Result, refl, sym, ap, ◌∙◌, arith, rules, w32, w64, to_z, of_z}
use Rattle.std.specs.Result.{result_unwrap_or}
use Rattle.std.proofs.lemmas.Int.{to_z-of_z}
use Rattle.std.proofs.lemmas.List.{length-drop, length-take-le, length_push}
use Rattle.fault.specs.declared.Fault.{Fault}
use Rattle.finisher.specs.Finishers.{after, finishes}
use Rattle.tape.specs.Tapes.{undrawn}
use Rattle.runs.specs.Model as model
use Rattle.runs.specs.Model.{advance, all_advanced, release, says_after}
use Rattle.station.specs.Lanes.{lane_of, lanes_of, published_by}
use Rattle.station.proofs.Rows.{comes-all, comes-more, uneven-at, uneven-more, written-front}
use Rattle.station.proofs.Serving.{undrawn-at, finished-at}
use Rattle.station.proofs.table.Table.take_row.Goals as goal

pub loop-class-preserved : goal.loop-class-preserved
loop-class-preserved g c =
    let some = c.args.self.now.some in
    let says = g.F.Finisher.says c.loop-class.finisher in
    let cells = g.T.Tape.cells c.loop-class.tape in
    let all = c.loop-class.lane-items in
    let row = c.args.row.now in
    let i = c.loop-class.class in
    let back = c.args.back in
    let steps = c.args.self.now.steps in
    let begun = g.F.Finisher.says c.args.finisher.now in
    let goes = all_advanced back (lanes_of (take c.args.self.now.classes c.args.self.now.lanes)) row (g.T.Tape.cells c.args.tape.now) in
    let wide : c.args.self.now.classes ≤ length c.args.self.now.lanes = search rules in
    let long = c.loop-class.auto.lane-items ∙ length-take-le c.args.self.now.classes c.args.self.now.lanes wide in
    let room : c.loop-class.class < length c.loop-class.lane-items = omega arith in
    let within : c.loop-class.class < length c.args.row.now = omega arith in
    let deep : c.loop-class.class < length (g.T.Tape.cells c.args.tape.now) = omega arith in
    let left : 0 < length (g.T.Tape.cells c.loop-class.tape) = omega (arith, ap length c.loop-class.invariant.drawn, length-drop c.loop-class.class (g.T.Tape.cells c.args.tape.now)) in
    let low : c.loop-class.class < 8 = omega arith in
    let cell : to_z w32 (of_z w32 c.next_cell-cell.result) ≡ get_or (g.T.Tape.cells c.loop-class.tape) 0 (pos 0) =
    to_z-of_z w32 c.next_cell-cell.result (record { sfits = c.next_cell-cell.type_inv }) ∙ c.next_cell-cell.ensures.cell in
    let taken = c.advance.ensures ∙ ap (advance back (lane_of (get_or all i c.lane-item.result)) (get_or row i 0)) cell in
    let out : to_z w64 (of_z w64 c.release-release.result) ≡ release (lane_of c.advance.new.self) =
    to_z-of_z w64 c.release-release.result (record { sfits = c.release-release.type_inv }) ∙ c.release-release.ensures in
    let published : to_z w64 (of_z w64 c.unwrap-lane.result) ≡ g.F.Finisher.says c.loop-class.finisher [] c.loop-class.class (release (lane_of c.advance.new.self)) =
    to_z-of_z w64 c.unwrap-lane.result (record { sfits = c.unwrap-lane.type_inv })
    ∙ ap (λ (r : Result ℤ Fault). result_unwrap_or r (pos 0)) (sym c.unwrap-lane.ensures ∙ c.finish.ensures.answer)
    ∙ finished-at says i _ low
    ∙ ap (says [] i) out in
    let saying = c.finish.ensures.moved low ∙ ap (λ (z : ℤ). after (finishes c.loop-class.class z) (g.F.Finisher.says c.loop-class.finisher)) out in
    let had : length (get_or c.loop-class.lane-items c.loop-class.class c.lane-item.result).noise.items ≡ c.args.self.now.steps = uneven-at steps i all c.lane-item.result room c.loop-class.invariant.uneven in
    let has : length c.advance.new.self.noise.items ≡ c.args.self.now.steps + 1 =
    ap (λ (x : model.Lane). length x.noise) c.advance.ensures ∙ length_push (get_or all i c.lane-item.result).noise.items _ ∙ ap (λ n. n + 1) had in
    record {
      comes = comes-more (published_by begun 0 goes) (says_after begun 0 (map release goes)) says (g.F.Finisher.says c.finish.new.self) back i all row cells (g.T.Tape.cells c.next_cell-cell.new.tape) (lane_of c.advance.new.self) c.lane-item.result _
          room within left taken refl refl published saying c.next_cell-cell.ensures.moved c.loop-class.invariant.comes;
      drawn = c.next_cell-cell.ensures.moved ∙ ap undrawn c.loop-class.invariant.drawn ∙ undrawn-at (g.T.Tape.cells c.args.tape.now) i deep;
      uneven = uneven-more steps i all c.lane-item.result _ room has c.loop-class.invariant.uneven;
    }

pub returns-clause-lanes : goal.returns-clause-lanes
returns-clause-lanes g c =
    let some = c.args.self.now.some in
    let classes = c.args.self.now.classes in
    let lanes = c.args.self.now.lanes in
    let wide : c.args.self.now.classes ≤ length c.args.self.now.lanes = search rules in
    let all = c.loop-class.lane-items in
    let cells = g.T.Tape.cells c.args.tape.now in
    let begun = g.F.Finisher.says c.args.finisher.now in
    let says = g.F.Finisher.says c.loop-class.finisher in
    let long = c.loop-class.auto.lane-items in
    let ended = comes-all begun says c.args.back c.loop-class.class (take classes lanes) all c.args.row.now cells (g.T.Tape.cells c.loop-class.tape) (omega arith) c.loop-class.invariant.comes in
    rw (written-front classes lanes all wide long) ended.0

pub returns-clause-finished : goal.returns-clause-finished
returns-clause-finished g c =
    let classes = c.args.self.now.classes in
    let lanes = c.args.self.now.lanes in
    let all = c.loop-class.lane-items in
    let cells = g.T.Tape.cells c.args.tape.now in
    let begun = g.F.Finisher.says c.args.finisher.now in
    let says = g.F.Finisher.says c.loop-class.finisher in
    let long = c.loop-class.auto.lane-items in
    let ended = comes-all begun says c.args.back c.loop-class.class (take classes lanes) all c.args.row.now cells (g.T.Tape.cells c.loop-class.tape) (omega arith) c.loop-class.invariant.comes in
    ended.1

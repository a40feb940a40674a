use Rattle.std.proofs.Common.{◌≡◌, ◌-◌, ◌<◌, length, refl, arith, rules}
use Rattle.publishing.proofs.Going.{going_end, going_on, going_start, turn-room}
use Rattle.publishing.proofs.keeper.Keeper.answer_rest.Goals as goal
use Rattle.publishing.proofs.keeper.Keeper.answer_rest.Goals.{else-loop-event-test, then-loop-event-test+then-is_empty}

pub loop-event-init : goal.loop-event-init
loop-event-init g c = going_start _ c.args.work c.args.out.now c.args.events.now c.requires.room

pub turn-requires : goal.turn-requires
turn-requires g c =
    let some : 0 < length c.loop-event.rest.now = search rules in
    record { room = turn-room c.loop-event.invariant c.loop-event.self.station.table.some some (length c.loop-event.out - c.loop-event.work.written) refl }

pub loop-event-preserved : goal.loop-event-preserved
loop-event-preserved g c =
    let some : 0 < length c.loop-event.rest.now = search rules in
    going_on c.loop-event.invariant c.loop-event.self.station.table.some some (length c.loop-event.out - c.loop-event.work.written) refl
    c.turn.result.0 c.turn.new.out c.turn.result.1.now _ c.turn.ensures.wrote (search rules) c.turn.ensures.after c.turn.ensures.rest

pub returns-clause-wrote : goal.returns-clause-wrote
returns-clause-wrote g c =
    let count = c.loop-event.invariant.count in
    let none : length c.loop-event.rest.now ≡ 0 =
    elim c.loop-event-test.branch [ else-loop-event-test w ↦ omega (arith, w.loop-event-test.false) | then-loop-event-test+then-is_empty w ↦ search (rules, w.if-is_empty) ] in
    going_end c.loop-event.invariant c.finish.result c.finish.new.out none c.finish.ensures

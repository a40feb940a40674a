use Rattle.std.proofs.Common.{◌<◌, length, rules}
use Rattle.listing.proofs.Sums.{left_end, turn_more, turn-stop}
use Rattle.listing.proofs.list.Goals as goal

pub loop-rest-preserved : goal.loop-rest-preserved
loop-rest-preserved g c =
    turn_more c.loop-rest.summary _ c.loop-rest.rest.now c.read_record.result.1.now c.args.bytes.now _ c.read_record.ensures.value c.read_record.ensures.rest c.if-not-add.ensures.after c.if-not-add.ensures.value c.loop-rest.invariant

pub returns-after-loop-rest : goal.returns-after-loop-rest
returns-after-loop-rest g c =
    left_end c.loop-rest.summary _ c.loop-rest.rest.now (search rules) c.loop-rest.invariant.0

pub returns-then-not-add : goal.returns-then-not-add
returns-then-not-add g c =
    let h : 0 < length c.loop-rest.rest.now = search rules in
    turn-stop c.loop-rest.summary _ c.loop-rest.rest.now c.read_record.result.1.now c.args.bytes.now _ c.read_record.ensures.value c.read_record.ensures.rest c.if-not-add.ensures.after h c.if-not-add.ensures.value c.loop-rest.invariant

use Rattle.std.proofs.Common.{◌≡◌, ℕ, length, Ok, ap, ◌∙◌, rules}
use Rattle.std.proofs.lemmas.Bool.{le-ltb}
use Rattle.publishing.specs.Whole.{least_room, records}
use Rattle.publishing.proofs.Worked.{worked-whole}
use Rattle.publishing.proofs.Writing.{ended-whole}
use Rattle.publishing.proofs.publish.Goals as goal

pub returns-then-out-lt-LEAST_ROOM-clause-worked : goal.returns-then-out-lt-LEAST_ROOM-clause-worked
returns-then-out-lt-LEAST_ROOM-clause-worked c = worked-whole

pub returns : goal.returns
returns c =
    let out = c.args.out.now in
    let large = le-ltb (length out) least_room c.if-out-lt-LEAST_ROOM.false in
    let kept : length c.answer_events-work.new.out ≡ length c.args.out.now = search rules in
    let ended = ended-whole (records c.args.events.now c.args.tape.now (length out)) c.new.result c.answer_events-work.result out c.answer_events-work.new.out c.end_publication.new.out c.new.ensures.0 c.new.ensures.1 c.answer_events-work.ensures.wrote c.answer_events-work.ensures.room kept c.end_publication.ensures.after in
    record {
      answer = rw large (ap (λ (n : ℕ). Ok n) (c.end_publication.ensures.size ∙ ended.0));
      after = rw large ended.1;
      within = search rules;
      worked = worked-whole;
    }

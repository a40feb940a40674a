use Rattle.std.proofs.Common.{refl, ap, ◌∙◌}
use Rattle.record.specs.Seen.{entry_of}
use Rattle.record.specs.Writes.{write_of}
use Rattle.publication.specs.Works.{grown}
use Rattle.publication.proofs.Adding.{part-long, output-then}
use Rattle.publication.proofs.work.InWork.add.Goals as goal

pub returns-in-Err : goal.returns-in-Err
returns-in-Err c =
    let w = c.args.self in
    let out = c.args.out.now in
    let e = entry_of c.args.entry.now in
    let room = part-long w.written out c.min-at.result c.min-at.ensures in
    record {
      answer = ap (grown w.written) (c.in-Err.ensures.value ∙ ap (write_of e) room);
      count = refl;
      after = output-then w.written out c.min-at.result c.min-at.ensures e _ c.in-Err.ensures.after;
    }

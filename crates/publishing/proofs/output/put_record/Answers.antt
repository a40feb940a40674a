use Rattle.std.proofs.Common.{length, sym, ◌∙◌}
use Rattle.record.specs.Seen.{entry_of}
use Rattle.publication.proofs.Adding.{added-taken, output-taken}
use Rattle.publishing.proofs.Writing.{wrote-one}
use Rattle.publishing.proofs.output.put_record.Goals as goal

pub returns : goal.returns
returns c =
    let e = entry_of c.args.entry.now in
    wrote-one e c.args.work c.args.out.now c.requires.counts.0 c.requires.counts.1 c.requires.room c.take.result
    (c.take.ensures.answer ∙ sym (added-taken e c.requires.kind.0 c.requires.kind.1 c.args.work.written (length c.args.out.now)))
    c.unwrap.result c.take.new.out c.unwrap.ensures c.take.ensures.count
    (c.take.ensures.after ∙ sym (output-taken e c.requires.kind.0 c.requires.kind.1 c.args.work.written c.args.out.now))

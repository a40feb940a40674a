use Rattle.std.proofs.Common.{length, ap, ◌∙◌}
use Rattle.record.specs.Kinds.{Entry}
use Rattle.publication.specs.Works.{output_with, written_with}
use Rattle.publication.proofs.work.InWork.refuse.Goals as goal

pub returns : goal.returns
returns c =
    let w = c.args.self in
    let out = c.args.out.now in
    record {
      answer = c.add.ensures.answer ∙ ap (λ (e : Entry). written_with w.written e (length out)) c.refused_record-entry.ensures;
      count = c.add.ensures.count;
      after = c.add.ensures.after ∙ ap (λ (e : Entry). output_with w.written e out) c.refused_record-entry.ensures;
    }

use Rattle.std.proofs.Common.{◌∙◌, arith}
use Rattle.record.specs.Kinds.{ended}
use Rattle.publishing.proofs.Writing.{end-size, output-fits}
use Rattle.publishing.proofs.output.end_publication.Goals as goal

pub returns : goal.returns
returns c =
    record {
      size = c.len.ensures ∙ end-size c.args.work c.args.out.now c.requires c.end.result c.end.ensures.answer c.unwrap.result c.unwrap.ensures;
      after = c.end.ensures.after ∙ output-fits (ended c.args.work.records) c.args.work.written c.args.out.now (omega arith) (omega arith) c.requires;
    }

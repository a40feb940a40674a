use Rattle.std.proofs.Common.{arith}
use Rattle.fault.specs.Told.{told}
use Rattle.publication.specs.Works.{refused_by}
use Rattle.publishing.proofs.Writing.{wrote-one}
use Rattle.publishing.proofs.output.put_refused.Goals as goal

pub returns : goal.returns
returns c =
    wrote-one (refused_by (told c.args.fault) c.args.event) c.args.work c.args.out.now (omega arith) (omega arith) c.requires c.refuse.result c.refuse.ensures.answer
    c.unwrap.result c.refuse.new.out c.unwrap.ensures c.refuse.ensures.count c.refuse.ensures.after

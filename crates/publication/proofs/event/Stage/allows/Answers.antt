use Rattle.std.proofs.Common.{subst}
use Rattle.record.specs.declared.kinds.Kind.TheVariants.{SetUp, Open, Step, Close}
use Rattle.record.specs.Numbered.{IsKindOf}
use Rattle.publication.proofs.Events.{never-allowed}
use Rattle.publication.proofs.event.Stage.allows.Goals as goal

pub returns-in_default-2 : goal.returns-in_default-2
returns-in_default-2 c =
    let none = (subst (IsKindOf c.args.number) c.in_default.is c.try_from.ensures).1 in
    never-allowed c.args.self c.args.number (none SetUp) (none Open) (none Step) (none Close)

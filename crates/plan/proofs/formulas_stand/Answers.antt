use Rattle.plan.proofs.Formulas.{formulas}
use Rattle.plan.proofs.formulas_stand.Goals as goal

pub returns : goal.returns
returns c = formulas

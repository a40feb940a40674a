use Rattle.runs.proofs.Examples.{worked-pair, worked-run}
use Rattle.runs.proofs.worked_runs_stand.Goals as goal

pub returns : goal.returns
returns c = record { run = worked-run; pair = worked-pair }

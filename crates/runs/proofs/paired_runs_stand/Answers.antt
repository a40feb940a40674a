use Rattle.runs.proofs.Law.{paired-runs}
use Rattle.runs.proofs.paired_runs_stand.Goals as goal

pub returns : goal.returns
returns c = paired-runs

-- The worked examples of every layer, as one statement.
use Rattle.plan.specs.Examples as plan
use Rattle.tape.specs.Examples as tape
use Rattle.finisher.specs.Examples as finisher
use Rattle.runs.specs.Examples as runs

pub record WorkedExamples : Type 0 where
  pub plans : plan.Examples
  pub tapes : tape.WorkedTapes
  pub finishers : finisher.WorkedFinishers
  pub run : runs.WorkedRun
  pub pair : runs.WorkedPair

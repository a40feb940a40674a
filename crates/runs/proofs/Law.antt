-- The law, whole.
use Rattle.finisher.specs.Finishers.{Stands, Keeps}
use Rattle.runs.specs.Law.{Making, LawfulMaking, EachRun, PairedRuns}
use Rattle.runs.proofs.Accuracy.{accurate}
use Rattle.runs.proofs.Published.{published-counts, spends-depth}
use Rattle.runs.proofs.LinkRuns.{same-answers}
use Rattle.runs.proofs.Within.{within-units}
use Rattle.runs.proofs.Places.{same-places}

-- of every station whose finisher keeps its meaning
pub each-run : (p : Making) → LawfulMaking p → (stands : Stands) → Keeps p.says stands → EachRun p
each-run p lawful stands keeps =
    record {
      lawful = lawful;
      published-counts = published-counts p lawful;
      spends-depth = spends-depth p lawful;
      accurate = accurate p lawful stands keeps;
    }

pub paired-runs : PairedRuns
paired-runs = record { same-answers = same-answers; within-units = within-units; same-places = same-places }

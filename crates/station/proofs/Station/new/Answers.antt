use Rattle.runs.specs.Law.{LawfulMaking}
use Rattle.runs.proofs.Law.{each-run, paired-runs}
use Rattle.station.specs.View.{lawful_of, making_of}
use Rattle.station.proofs.Worked.{worked-examples}
use Rattle.station.proofs.Station.new.Goals as goal

pub returns-clause-each_run : goal.returns-clause-each_run
returns-clause-each_run g c =
    let p = making_of (lawful_of c.args.setting) (g.P.Plan.back c.args.plan) (g.T.Tape.cells c.args.tape) (g.F.Finisher.says c.args.finisher) in
    let lawful : LawfulMaking p =
    record {
      some = c.args.setting.some.0;
      few = c.args.setting.some.1;
      falls = g.met.P.Plan.falls c.args.plan;
      narrow = g.T.Tape.narrow c.args.tape;
    } in
    each-run p lawful (g.F.Finisher.stands c.args.finisher) (g.met.F.Finisher.keeps c.args.finisher)

pub returns-clause-paired_runs : goal.returns-clause-paired_runs
returns-clause-paired_runs g c = paired-runs

pub returns-clause-examples : goal.returns-clause-examples
returns-clause-examples g c = worked-examples

use Rattle.std.proofs.Common.{arith}
use Rattle.std.proofs.lemmas.Bool.Decides.{nat_tests}
use Rattle.station.proofs.Serving.{over-at}
use Rattle.station.proofs.row.first_over.Goals as goal

pub returns-then-row-class-gt-MOST : goal.returns-then-row-class-gt-MOST
returns-then-row-class-gt-MOST c =
    let here = over-at c.args.row.now c.loop-class.class (omega arith) in
    (omega arith, grind (arith, nat_tests))

pub loop-class-preserved : goal.loop-class-preserved
loop-class-preserved c =
    let here = over-at c.args.row.now c.loop-class.class (omega arith) in
    grind (arith, nat_tests)

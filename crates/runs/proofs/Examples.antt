-- The worked examples, by computation.
use Rattle.std.proofs.Common.{List, ℤ, refl, lit<, lit≤, w32, SFits}
use mir.Facts.{sfits_lit}
use Rattle.std.specs.List.{AllByRecursion}
use Rattle.plan.specs.Plans.{horizon, holds, holding, total, greatest, depth}
use Rattle.plan.specs.Known.{dyadic, power_in}
use Rattle.plan.specs.Dyadics.{dyadic-falls}
use Rattle.runs.specs.Law.{LawfulMaking}
use Rattle.runs.specs.Examples.{WorkedRun, WorkedPair, twice}

pub worked-run : WorkedRun
unfolding dyadic power_in depth greatest holding total holds
worked-run = (refl, refl)

lawful-twice : (cells : List ℤ) → AllByRecursion (SFits w32) cells → LawfulMaking (twice cells)
lawful-twice cells h = record { some = lit≤ tt; few = lit≤ tt; falls = dyadic-falls horizon; narrow = h }

pub worked-pair : WorkedPair
unfolding dyadic power_in depth greatest holding total holds
worked-pair =
    record {
      lawful-first = lawful-twice _ (sfits_lit tt, (sfits_lit tt, (sfits_lit tt, (sfits_lit tt, (sfits_lit tt, tt)))));
      lawful-second = lawful-twice _ (sfits_lit tt, (sfits_lit tt, (sfits_lit tt, (sfits_lit tt, (sfits_lit tt, tt)))));
      alike = record { setting = refl; plan = λ t a b. refl; finisher = λ calls class release l f. refl; tape = refl };
      agreed =
          (tt, ((refl, refl, lit< tt, lit≤ tt, lit≤ tt, λ _. lit≤ tt), (tt, (tt, (tt, (tt, (tt, ((refl, refl, lit< tt, lit≤ tt, lit≤ tt, λ _. lit≤ tt), (tt, (tt, tt))))))))));
      moved = refl;
    }

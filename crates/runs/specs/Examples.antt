-- Worked examples: one station's calls and answers, and a pair of stations as the law speaks of them.
use Rattle.std.specs.Prelude.{◌≡◌, true, false, List, [], ◌∷◌, ℤ, pos, negsuc}
use Rattle.plan.specs.Known.{dyadic}
use Rattle.finisher.specs.Finishers.{Says}
use Rattle.finisher.specs.Kinds.{plain, none_held, rising}
use Rattle.runs.specs.Model.{Call, opens, steps, closes, reads, balances, Answer, opened, stepped, closed, published, balance, refused, tell}
use Rattle.runs.specs.Runs.{answers, Joint, same, apart}
use Rattle.runs.specs.Law.{Making, Pair, make}

-- one class, a grant of 5, the dyadic plan
abbrev pub four : Says → Making
four says =
    record {
      setting = record { number = 9; classes = 1; grant = 5 };
      back = dyadic;
      cells = pos 2 ∷ negsuc 0 ∷ negsuc 3 ∷ pos 3 ∷ [];
      says = says;
    }

abbrev pub four_rows : List Call
four_rows =
    opens 4
    ∷ steps (3 ∷ []) ∷ reads 0 ∷ steps (0 ∷ []) ∷ reads 0 ∷ steps (2 ∷ []) ∷ reads 0 ∷ steps (1 ∷ []) ∷ reads 0
    ∷ closes 9 1 ∷ opens 4 ∷ opens 3 ∷ balances ∷ []

-- what is published, and what the calls answer around it
abbrev pub four_answers : ℤ → ℤ → ℤ → ℤ → List Answer
four_answers a b c d =
    opened 9 1
    ∷ stepped 1 ∷ published a ∷ stepped 2 ∷ published b ∷ stepped 3 ∷ published c ∷ stepped 4 ∷ published d
    ∷ closed 4 3 ∷ refused (tell 5 3 3) ∷ opened 9 2 ∷ balance 5 3 2 ∷ []

-- the releases are 5, 2, 0, 9, as a plain finisher publishes them, and Rising over it publishes 5, 5, 5, 9. The close
-- spends 3 of the grant of 5; then a horizon of 4 is refused, and one of 3 accepted
abbrev pub WorkedRun : Type 0
WorkedRun =
    (answers (make (four plain)) four_rows ≡ four_answers (pos 5) (pos 2) (pos 0) (pos 9))
    × (answers (make (four (rising plain none_held))) four_rows ≡ four_answers (pos 5) (pos 5) (pos 5) (pos 9))

-- two epochs: in the first the second list has one report more at step 1, in the second one less at step 2
abbrev pub two_epochs : List Joint
two_epochs =
    same (opens 2) ∷ apart (3 ∷ []) 0 true ∷ same (steps (0 ∷ [])) ∷ same (reads 0) ∷ same (closes 9 1)
    ∷ same (opens 2) ∷ same (steps (1 ∷ [])) ∷ apart (2 ∷ []) 0 false ∷ same (closes 9 2) ∷ same balances ∷ []

abbrev pub twice : List ℤ → Making
twice cells =
    record {
      setting = record { number = 9; classes = 1; grant = 10 };
      back = dyadic;
      cells = cells;
      says = rising plain none_held;
    }

-- three cells are moved: both of the first epoch, whose parts hold step 1, and the second one of the second epoch
abbrev pub WorkedPair : Type 0
WorkedPair =
    Pair (twice (pos 2 ∷ negsuc 0 ∷ pos 4 ∷ pos 7 ∷ pos 1 ∷ [])) (twice (pos 1 ∷ negsuc 1 ∷ pos 4 ∷ pos 8 ∷ pos 1 ∷ [])) two_epochs

-- A worked example of Rising over Plain.
use Rattle.std.specs.Prelude.{◌≡◌, ℕ, List, [], ◌∷◌, ℤ, pos}
use Rattle.finisher.specs.Finishers.{begins, finishes, Says, after}
use Rattle.finisher.specs.Kinds.{plain, none_held, rising}

-- the answers to releases of one class, one after the other
abbrev pub answers : Says → ℕ → List ℤ → List ℤ
answers says class [] = []
answers says class (z ∷ releases) = says [] class z ∷ answers (after (finishes class z) says) class releases

abbrev pub WorkedFinishers : Type 0
WorkedFinishers =
    answers (after begins (rising plain none_held)) 0 (pos 5 ∷ pos 2 ∷ pos 0 ∷ pos 9 ∷ []) ≡ pos 5 ∷ pos 5 ∷ pos 5 ∷ pos 9 ∷ []

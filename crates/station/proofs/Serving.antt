-- A row's counts looked at, its cells drawn and its releases finished, class after class.
use Rattle.std.proofs.Common.{◌≡◌, ℕ, suc, ◌+◌, ◌<◌, ◌≤◌, cond, ltb, List, [], ◌∷◌, length, get_or, drop, ℤ, pos, refl, ap, arith}
use Rattle.std.proofs.lemmas.List.{drop_more}
use Rattle.std.proofs.lemmas.Bool.{lt-ltb}
use Rattle.std.specs.Result.{result_unwrap_or}
use Rattle.std.specs.List.{All}
use Rattle.std.proofs.lemmas.List.Elements.{All-cons, All-nil}
use Rattle.std.proofs.lemmas.Bool.Decides.{nat_tests}
use Rattle.finisher.specs.Finishers.{Says, finished}
use Rattle.runs.specs.Model.{first_above}
use Rattle.tape.specs.Tapes.{drawn, undrawn}

-- The counts of a row

pub over-at : (row : List ℕ) (i : ℕ) → i < length row → first_above (drop i row) ≡ cond (ltb 1000 (get_or row i 0)) 0 (suc (first_above (drop (i + 1) row)))
over-at row i h = ap first_above (drop_more row i 0 h)

-- a row with no count over has only small counts
pub all_small : (row : List ℕ) → length row ≤ first_above row → All (λ n. n ≤ 1000) row
all_small [] h = All-nil (λ n. n ≤ 1000)
all_small (n ∷ row) h = All-cons (λ m. m ≤ 1000) n row (grind (arith, nat_tests)) (all_small row (grind (arith, nat_tests)))

-- Cells and releases

pub drawn-first : (cells : List ℤ) → result_unwrap_or (drawn cells) (pos 0) ≡ get_or cells 0 (pos 0)
drawn-first [] = refl
drawn-first (z ∷ cells) = refl

pub undrawn-at : (cells : List ℤ) (i : ℕ) → i < length cells → undrawn (drop i cells) ≡ drop (i + 1) cells
undrawn-at cells i h = ap undrawn (drop_more cells i (pos 0) h)

pub finished-at : (says : Says) (class : ℕ) (z : ℤ) → class < 8 → result_unwrap_or (finished says class z) (pos 0) ≡ says [] class z
finished-at says class z h = rw (lt-ltb class 8 h)

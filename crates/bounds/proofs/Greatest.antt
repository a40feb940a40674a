-- The greatest size, cell by cell.
use Rattle.std.proofs.Common.{◌≡◌, ℕ, suc, ◌≤◌, max, List, [], ◌∷◌, ◌++◌, take, drop, ℤ, pos, nat_abs, Err, refl, arith}
use lib.Seq.{take-nil, drop-nil}
use Rattle.std.specs.Result.{result_unwrap_or}
use Rattle.std.proofs.lemmas.Int.{ints}
use Rattle.fault.specs.declared.Fault.{Fault}
use Rattle.tape.specs.Tapes.{drawn, undrawn}
use Rattle.finisher.specs.Finishers.{Within}
use Rattle.bounds.specs.Sizes.{greatest, AllWithin}

-- a draw, then the k cells after it
pub draw-size : (size k : ℕ) (cells : List ℤ) → greatest (max size (nat_abs (result_unwrap_or (drawn cells) (pos 0)))) (take k (undrawn cells)) ≡ greatest size (take (suc k) cells)
draw-size size k [] = grind (arith, take-nil {A = ℤ})
draw-size size k (cell ∷ cells) = refl

pub draw-rest : (k : ℕ) (cells : List ℤ) → drop k (undrawn cells) ≡ drop (suc k) cells
draw-rest k [] = drop-nil k
draw-rest k (cell ∷ cells) = refl

-- no cell can be drawn where none is left
pub none-left : (cells : List ℤ) (fault : Fault) → Err fault ≡ drawn cells → cells ≡ []
none-left [] fault e = refl
none-left (cell ∷ cells) fault e = let z : ◌≡◌ {A = ℕ} 0 1 = cc in absurd (omega arith)

pub none_left : (size k : ℕ) (cells : List ℤ) → k ≡ 0 → size ≡ greatest size (take k cells)
none_left size k cells e = rw e refl

-- What the greatest size covers

size-within : (z : ℤ) → Within (nat_abs z) z 0
size-within z = (omega (arith, ints), omega (arith, ints))

within_more : (a b : ℕ) (z : ℤ) → a ≤ b → Within a z 0 → Within b z 0
within_more a b z h w = (omega (arith, ints, w.0), omega (arith, ints, w.1))

all_more : (a b : ℕ) (cells : List ℤ) → a ≤ b → AllWithin a cells → AllWithin b cells
all_more a b [] h all = tt
all_more a b (cell ∷ cells) h all = (within_more a b cell h all.0, all_more a b cells h all.1)

grows : (size : ℕ) (cells : List ℤ) → size ≤ greatest size cells
grows size [] = omega arith
grows size (cell ∷ cells) = let h = grows (max size (nat_abs cell)) cells in omega arith

all-greatest : (size : ℕ) (cells : List ℤ) → AllWithin (greatest size cells) cells
all-greatest size [] = tt
all-greatest size (cell ∷ cells) =
    let h = grows (max size (nat_abs cell)) cells in
    (within_more (nat_abs cell) _ cell (omega arith) (size-within cell), all-greatest (max size (nat_abs cell)) cells)

all_join : (a : ℕ) (xs ys : List ℤ) → AllWithin a xs → AllWithin a ys → AllWithin a (xs ++ ys)
all_join a [] ys f g = g
all_join a (x ∷ xs) ys f g = (f.0, all_join a xs ys f.1 g)

-- a greatest size covers what was covered before, and the cells it is taken from
pub covered-by : (size size' : ℕ) (cells : List ℤ) → size' ≡ greatest size cells → (before : List ℤ) → AllWithin size before → AllWithin size' (before ++ cells)
covered-by size size' cells e before h =
    rw e (all_join _ before cells (all_more size _ before (grows size cells) h) (all-greatest size cells))

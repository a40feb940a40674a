-- What holds of each class, before and after a row.
use Rattle.std.proofs.Common.{◌≡◌, ℕ, zero, suc, ◌+◌, ◌<◌, List, [], ◌∷◌, length, get_or, replicate, ℤ, refl, ap, subst, arith}
use Rattle.std.specs.List.{AllByRecursion}
use Rattle.finisher.specs.Finishers.{Says, after, finishes}
use Rattle.runs.specs.Model.{Lane, advance, all_advanced, answers_to, all_published, empty_lane}

-- a fact of each class from one on
abbrev pub AllFrom : (ℕ → Lane → Type 0) → ℕ → List Lane → Type 0
AllFrom P class [] = Unit {0}
AllFrom P class (lane ∷ lanes) = P class lane × AllFrom P (suc class) lanes

pub all-from-weaker : (P Q : ℕ → Lane → Type 0) → ((class : ℕ) (lane : Lane) → P class lane → Q class lane) → (class : ℕ) (lanes : List Lane) → AllFrom P class lanes → AllFrom Q class lanes
all-from-weaker P Q f class [] h = tt
all-from-weaker P Q f class (lane ∷ lanes) (h, hs) = (f class lane h, all-from-weaker P Q f (suc class) lanes hs)

pub all-from-both : (P Q : ℕ → Lane → Type 0) (class : ℕ) (lanes : List Lane) → AllFrom P class lanes → AllFrom Q class lanes → AllFrom (λ c l. P c l × Q c l) class lanes
all-from-both P Q class [] h k = tt
all-from-both P Q class (lane ∷ lanes) (h, hs) (k, ks) = ((h, k), all-from-both P Q (suc class) lanes hs ks)

pub all-from-new : (P : ℕ → Lane → Type 0) → ((class : ℕ) → P class empty_lane) → (class n : ℕ) → AllFrom P class (replicate n empty_lane)
all-from-new P f class zero = tt
all-from-new P f class (suc n) = (f class, all-from-new P f (suc class) n)

-- the class c places on
pub all-from-at : (P : ℕ → Lane → Type 0) (class : ℕ) (lanes : List Lane) (c : ℕ) → c < length lanes → AllFrom P class lanes → P (class + c) (get_or lanes c empty_lane)
all-from-at P class [] c h a = absurd (omega arith)
all-from-at P class (lane ∷ lanes) zero h (a, as') = subst (λ (k : ℕ). P k lane) (omega arith) a
all-from-at P class (lane ∷ lanes) (suc c) h (a, as') =
    subst (λ (k : ℕ). P k (get_or lanes c empty_lane)) (omega arith) (all-from-at P (suc class) lanes c (omega arith) as')

-- a fact of each count, by its class
abbrev pub AllCounts : (ℕ → ℕ → Type 0) → ℕ → List ℕ → Type 0
AllCounts R class [] = Unit {0}
AllCounts R class (x ∷ row) = R class x × AllCounts R (suc class) row

pub all-counts : (P : ℕ → Type 0) (class : ℕ) (row : List ℕ) → AllByRecursion P row → AllCounts (λ _. P) class row
all-counts P class [] h = tt
all-counts P class (x ∷ row) (h, hs) = (h, all-counts P (suc class) row hs)

-- a row: R of each count, by its class, and S of each cell
module _ (P Q : ℕ → Lane → Type 0) (R : ℕ → ℕ → Type 0) (S : ℤ → Type 0) (back : ℕ) (turn : (class : ℕ) (lane : Lane) (x : ℕ) (cell : ℤ) → P class lane → R class x → S cell → Q class (advance back lane x cell)) where
  pub advance-all : (class : ℕ) (lanes : List Lane) (row : List ℕ) (cells : List ℤ) → AllFrom P class lanes → AllCounts R class row → AllByRecursion S cells → AllFrom Q class (all_advanced back lanes row cells)
  advance-all class [] row cells h r s = tt
  advance-all class (lane ∷ lanes) [] cells h r s = tt
  advance-all class (lane ∷ lanes) (x ∷ row) [] h r s = tt
  advance-all class (lane ∷ lanes) (x ∷ row) (cell ∷ cells) (h, hs) (r, rs) (s, ss) =
      (turn class lane x cell h r s, advance-all (suc class) lanes row cells hs rs ss)

pub length-advance : (back : ℕ) (lanes : List Lane) (row : List ℕ) (cells : List ℤ) → length row ≡ length lanes → length cells ≡ length lanes → length (all_advanced back lanes row cells) ≡ length lanes
length-advance back [] row cells r c = refl
length-advance back (lane ∷ lanes) [] cells r c = absurd (omega arith)
length-advance back (lane ∷ lanes) (x ∷ row) [] r c = absurd (omega arith)
length-advance back (lane ∷ lanes) (x ∷ row) (cell ∷ cells) r c = ap suc (length-advance back lanes row cells (omega arith) (omega arith))

pub length-answers : (says : Says) (class : ℕ) (zs : List ℤ) → length (answers_to says class zs) ≡ length zs
length-answers says class [] = refl
length-answers says class (z ∷ zs) = ap suc (length-answers (after (finishes class z) says) (suc class) zs)

pub length-publish : (lanes : List Lane) (zs : List ℤ) → length zs ≡ length lanes → length (all_published lanes zs) ≡ length lanes
length-publish [] zs h = refl
length-publish (lane ∷ lanes) [] h = absurd (omega arith)
length-publish (lane ∷ lanes) (z ∷ zs) h = ap suc (length-publish lanes zs (omega arith))

abbrev pub publish : Lane → ℤ → Lane
publish lane z = record { count = lane.count; noise = lane.noise; published = z }

pub publish-all : (P Q : ℕ → Lane → Type 0) → ((class : ℕ) (lane : Lane) (z : ℤ) → P class lane → Q class (publish lane z)) → (class : ℕ) (lanes : List Lane) (zs : List ℤ) → AllFrom P class lanes → AllFrom Q class (all_published lanes zs)
publish-all P Q f class [] zs h = tt
publish-all P Q f class (lane ∷ lanes) [] h = tt
publish-all P Q f class (lane ∷ lanes) (z ∷ zs) (h, hs) = (f class lane z h, publish-all P Q f (suc class) lanes zs hs)

pub every-cell : (cells : List ℤ) → AllByRecursion (λ _. Unit {0}) cells
every-cell [] = tt
every-cell (c ∷ cells) = (tt, every-cell cells)

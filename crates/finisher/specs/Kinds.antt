-- What the three finishers say and where they stand; `below` is the finisher that one stands on.
use Rattle.std.specs.Prelude.{ℕ, ◌+◌, List, [], ◌∷◌, replicate, ℤ, pos, ◌≤ℤ◌, slice_index_or, slice_set}
use Rattle.std.specs.Int.{int_max}
use Rattle.finisher.specs.declared.Rising.{Rising}
use Rattle.finisher.specs.declared.Floor.{Floor}
use Rattle.finisher.specs.Finishers.{class_limit, Call, begins, finishes, Says, after, Stands}

abbrev pub plain : Says
plain calls class release = release

abbrev pub everywhere : Stands
everywhere calls class error count = Unit {0}

-- 0 for each class
abbrev pub none_held : List ℤ
none_held = replicate class_limit (pos 0)

-- the greater of the answer from below and what is held for the class
abbrev pub raised : Says → List ℤ → ℕ → ℤ → ℤ
raised below held class release = int_max (below [] class release) (slice_index_or held class (pos 0))

-- what is held after calls: each finish holds its answer for its class, and begin clears all
abbrev pub held_after : Says → List ℤ → List Call → List ℤ
held_after below held [] = held
held_after below held (begins ∷ calls) = held_after (after begins below) none_held calls
held_after below held (finishes i z ∷ calls) = held_after (after (finishes i z) below) (slice_set held i (raised below held i z)) calls

abbrev pub rising : Says → List ℤ → Says
rising below held calls class release = int_max (below calls class release) (slice_index_or (held_after below held calls) class (pos 0))

-- what is held is no more than the error bound above the true count
abbrev pub held_near : Says → Stands → List ℤ → Stands
held_near says below held calls class error count =
    below calls class error count × (slice_index_or (held_after says held calls) class (pos 0) ≤ℤ pos (count + error))

-- the greater of the answer from below and 0
abbrev pub floored : Says → Says
floored below calls class release = int_max (below calls class release) (pos 0)

-- the meaning of a Rising and of a Floor, from that of the finisher below
abbrev pub rising_says : {F : Type 0} → (F → Says) → Rising F → Says
rising_says says f = rising (says f.below) f.held

abbrev pub rising_stands : {F : Type 0} → (F → Says) → (F → Stands) → Rising F → Stands
rising_stands says stands f = held_near (says f.below) (stands f.below) f.held

abbrev pub floor_says : {F : Type 0} → (F → Says) → Floor F → Says
floor_says says f = floored (says f.0)

abbrev pub floor_stands : {F : Type 0} → (F → Stands) → Floor F → Stands
floor_stands stands f = stands f.0

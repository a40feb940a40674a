-- Runs: a list of calls, what a station answers to it, and two such lists side by side.
use Rattle.std.specs.Prelude.{◌≡◌, ℕ, suc, ◌+◌, ◌-◌, ◌<◌, ◌≤◌, Bool, true, false, cond, ◌&&◌, ◌||◌, List, [], ◌∷◌, ◌++◌, map, length, ℤ, pos, negsuc, ◌-ℤ◌, Some, None, Option, ◌==◌, slice_index, slice_set}
use Rattle.std.specs.List.{range_with_len}
use Rattle.plan.specs.Plans.{holds}
use Rattle.runs.specs.Model.{Station, Call, opens, steps, closes, reads, balances, Answer, opened, stepped, closed, published, balance, refused, answer, next}

-- the answers to a list of calls, and the station after it
abbrev pub answers : Station → List Call → List Answer
answers s [] = []
answers s (call ∷ calls) = answer s call ∷ answers (next s call) calls

abbrev pub station_after : Station → List Call → Station
station_after s [] = s
station_after s (call ∷ calls) = station_after (next s call) calls

-- how many rows were accepted
abbrev pub rows_taken : List Answer → ℕ
rows_taken [] = 0
rows_taken (opened number serial ∷ rest) = rows_taken rest
rows_taken (stepped step ∷ told) = suc (rows_taken told)
rows_taken (closed taken units ∷ rest) = rows_taken rest
rows_taken (published count ∷ rest) = rows_taken rest
rows_taken (balance grant spent held ∷ rest) = rows_taken rest
rows_taken (refused told ∷ rest) = rows_taken rest

-- the rows accepted since the newest accepted open, oldest first, after one answered call more
abbrev pub epoch_after : List (List ℕ) → Call → Answer → List (List ℕ)
epoch_after rows call (opened number serial) = []
epoch_after rows (steps row) (stepped step) = rows ++ row ∷ []
epoch_after rows (opens epoch) (stepped step) = rows
epoch_after rows (closes number serial) (stepped step) = rows
epoch_after rows (reads class) (stepped step) = rows
epoch_after rows balances (stepped step) = rows
epoch_after rows call (closed taken units) = rows
epoch_after rows call (published count) = rows
epoch_after rows call (balance grant spent held) = rows
epoch_after rows call (refused told) = rows

abbrev pub epoch_rows : List (List ℕ) → List Call → List Answer → List (List ℕ)
epoch_rows rows [] rest = rows
epoch_rows rows (call ∷ calls) [] = rows
epoch_rows rows (call ∷ calls) (a ∷ rest) = epoch_rows (epoch_after rows call a) calls rest

-- a class's true count: the sum of its accepted counts
abbrev pub true_count : ℕ → List (List ℕ) → ℕ
true_count class [] = 0
true_count class (row ∷ rows) = slice_index row class + true_count class rows

-- Two lists side by side

-- the same call in both lists; or a row that differs in one class, where the second list has one report more or one less
pub data Joint : Type 0 where
  same : Call → Joint
  apart : (row : List ℕ) (class : ℕ) (more : Bool) → Joint

abbrev pub other_count : Bool → ℕ → ℕ
other_count true count = count + 1
other_count false count = count - 1

abbrev pub first : Joint → Call
first (same call) = call
first (apart row class more) = steps row

abbrev pub second : Joint → Call
second (same call) = call
second (apart row class more) = steps (slice_set row class (other_count more (slice_index row class)))

-- what the second count is above the first
abbrev pub difference : Bool → ℤ
difference true = pos 1
difference false = negsuc 0

-- a difference that was accepted: its step, its class and its size
pub record Change : Type 0 where
  pub step : ℕ
  pub class : ℕ
  pub by : ℤ

-- what the calls and the first station's answers tell of the newest epoch: whether it is open, whether its one
-- difference has been made, and which was accepted
pub record Sight : Type 0 where
  pub inside : Bool
  pub used : Bool
  pub change : Option Change

abbrev pub is_apart : Joint → Bool
is_apart (same call) = false
is_apart (apart row class more) = true

abbrev pub change_at : ℕ → Joint → Option Change → Option Change
change_at step (same call) change = change
change_at step (apart row class more) change = Some (record { step = step; class = class; by = difference more })

abbrev pub sight_after : Sight → Joint → Answer → Sight
sight_after s j (opened number serial) = record { inside = true; used = false; change = None }
sight_after s j (stepped step) = record { inside = s.inside; used = s.used || is_apart j; change = change_at step j s.change }
sight_after s j (closed taken units) = record { inside = false; used = s.used; change = s.change }
sight_after s j (published count) = s
sight_after s j (balance grant spent held) = s
sight_after s j (refused told) = record { inside = s.inside; used = s.used || is_apart j; change = s.change }

-- before the first call
abbrev pub unseen : Sight
unseen = record { inside = false; used = false; change = None }

-- by how much the cell of a class, drawn at a step, is moved: against the difference, where the part holds its step
abbrev pub shift_of : (ℕ → ℕ) → Option Change → ℕ → ℕ → ℤ
shift_of back None step class = pos 0
shift_of back (Some c) step class = cond (class == c.class && holds back step c.step == 1) c.by (pos 0)

-- the shifts of the cells that an answered call draws, class 0 first
abbrev pub shifts_at : (ℕ → ℕ) → ℕ → Option Change → Answer → List ℤ
shifts_at back classes change (opened number serial) = []
shifts_at back classes change (stepped step) = map (shift_of back change step) (range_with_len 0 classes)
shifts_at back classes change (closed taken units) = []
shifts_at back classes change (published count) = []
shifts_at back classes change (balance grant spent held) = []
shifts_at back classes change (refused told) = []

abbrev pub shifts : (ℕ → ℕ) → ℕ → Sight → List Joint → List Answer → List ℤ
shifts back classes s [] rest = []
shifts back classes s (j ∷ js) [] = []
shifts back classes s (j ∷ js) (a ∷ rest) =
    shifts_at back classes (sight_after s j a).change a ++ shifts back classes (sight_after s j a) js rest

-- cells less their shifts; those past the last shift stay
abbrev pub moved_by : List ℤ → List ℤ → List ℤ
moved_by [] shifts = []
moved_by (cell ∷ cells) [] = cell ∷ cells
moved_by (cell ∷ cells) (z ∷ shifts) = (cell -ℤ z) ∷ moved_by cells shifts

-- a row that may differ: in an epoch that has not had its difference, at a class of the row, both counts from 0 to 1,000
abbrev pub MayDiffer : Sight → Joint → Type 0
MayDiffer s (same call) = Unit {0}
MayDiffer s (apart row class more) =
    (s.inside ≡ true) × (s.used ≡ false) × (class < length row)
    × (slice_index row class ≤ 1000) × (other_count more (slice_index row class) ≤ 1000) × (more ≡ false → 1 ≤ slice_index row class)

abbrev pub Agreed : Sight → List Joint → List Answer → Type 0
Agreed s [] rest = Unit {0}
Agreed s (j ∷ js) [] = ⊥
Agreed s (j ∷ js) (a ∷ rest) = MayDiffer s j × Agreed (sight_after s j a) js rest

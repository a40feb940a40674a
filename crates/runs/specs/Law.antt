-- The law of paired runs.
use Rattle.std.specs.Prelude.{◌≡◌, ℕ, zero, suc, ◌+◌, ◌-◌, ◌*◌, ◌<◌, ◌≤◌, Bool, false, cond, ◌↔◌, List, [], ◌∷◌, ◌++◌, map, length, take, drop, ℤ, pos, negsuc, ◌+ℤ◌, FitsSigned, ◌==◌, slice_index_or}
use Rattle.std.specs.Int.{w32}
use Rattle.std.specs.List.{AllByRecursion, range_with_len}
use Rattle.plan.specs.Plans.{horizon, Falls, AgreeTo, cover, depth, breadth}
use Rattle.finisher.specs.Finishers.{Says, Alike, Within}
use Rattle.finisher.specs.Finishers as finisher
use Rattle.runs.specs.Model.{Setting, Station, Call, steps, closes, reads, balances, Answer, opened, stepped, closed, published, balance, refused, made}
use Rattle.runs.specs.Runs.{answers, rows_taken, epoch_after, epoch_rows, true_count, Joint, first, second, unseen, shifts, moved_by, Agreed}

-- what a station is made from
pub record Making : Type 0 where
  pub setting : Setting
  pub back : ℕ → ℕ
  pub cells : List ℤ
  pub says : Says

-- a number of classes that is not refused, and a plan and a tape that keep their meanings
pub record LawfulMaking (p : Making) : Type 0 where
  pub some : 1 ≤ p.setting.classes
  pub few : p.setting.classes ≤ 8
  pub falls : Falls p.back
  pub narrow : AllByRecursion (FitsSigned w32) p.cells

abbrev pub make : Making → Station
make p = made p.setting p.back p.cells p.says

-- made alike
pub record MadeAlike (p q : Making) : Type 0 where
  pub setting : p.setting ≡ q.setting
  pub plan : AgreeTo horizon p.back q.back
  pub finisher : Alike p.says q.says
  pub tape : length p.cells ≡ length q.cells

abbrev pub firsts : List Joint → List Call
firsts js = map first js

abbrev pub seconds : List Joint → List Call
seconds js = map second js

-- a station's answer to one call more, put after some calls
abbrev pub AnswerTo : Making → List Call → Call → Answer → Type 0
AnswerTo p calls call a = answers (make p) (calls ++ call ∷ []) ≡ answers (make p) calls ++ a ∷ []

-- two stations made alike, with two lists of calls that agree but for one row an epoch, and with tapes that differ in
-- the cells of that row's class whose parts hold its step, by one against the difference, and in no others
pub record Pair (p q : Making) (js : List Joint) : Type 0 where
  pub lawful-first : LawfulMaking p
  pub lawful-second : LawfulMaking q
  pub alike : MadeAlike p q
  pub agreed : Agreed unseen js (answers (make p) (firsts js))
  pub moved : q.cells ≡ moved_by p.cells (shifts p.back p.setting.classes unseen js (answers (make p) (firsts js)))

-- the cells that a run has drawn
abbrev pub drawn : Making → List Call → ℕ
drawn p calls = p.setting.classes * rows_taken (answers (make p) calls)

-- the cell at a position of the tape, as it was at the making
abbrev pub cell_at : Making → ℕ → ℤ
cell_at p position = slice_index_or p.cells position (pos 0)

abbrev pub same_cell : ℤ → ℤ → Bool
same_cell (pos m) (pos n) = m == n
same_cell (pos m) (negsuc n) = false
same_cell (negsuc m) (pos n) = false
same_cell (negsuc m) (negsuc n) = m == n

-- how many of the first n cells differ
abbrev pub differing : ℕ → List ℤ → List ℤ → ℕ
differing zero one other = 0
differing (suc n) (x ∷ one) (y ∷ other) = cond (same_cell x y) 0 1 + differing n one other
differing (suc n) (x ∷ one) [] = 0
differing (suc n) [] other = 0

-- the cells drawn in the newest epoch
abbrev pub epoch_cells : Making → List Call → List ℤ
epoch_cells p calls =
    let rows = length (epoch_rows [] calls (answers (make p) calls)) in
    take (p.setting.classes * rows) (drop (drawn p calls - p.setting.classes * rows) p.cells)

-- as long as an epoch has met no cell beyond a bound, what is published misses the true count by that bound for each part
-- of the longest cover at most
abbrev pub Accurate : Making → Type 0
Accurate p =
    (calls : List Call) (row : List ℕ) (step a class : ℕ)
    → AnswerTo p calls (steps row) (stepped step)
    → AllByRecursion (λ cell. Within a cell 0) (epoch_cells p (calls ++ steps row ∷ []))
    → class < p.setting.classes
    → (count : ℤ) × AnswerTo p (calls ++ steps row ∷ []) (reads class) (published count)
    × Within (a * breadth p.back step) count (true_count class (epoch_rows [] (calls ++ steps row ∷ []) (answers (make p) (calls ++ steps row ∷ []))))

-- Each station by itself

-- the noise of a class: the cells of the parts of a cover, in an epoch before which so many rows were drawn for
abbrev pub cover_noise : Making → ℕ → ℕ → List ℕ → ℤ
cover_noise p before class [] = pos 0
cover_noise p before class (u ∷ us) = cell_at p (p.setting.classes * (before + (u - 1)) + class) +ℤ cover_noise p before class us

-- a class's true count plus the noise of the cover of its newest step
abbrev pub release_of : Making → ℕ → List (List ℕ) → ℕ → ℤ
release_of p before rows class = pos (true_count class rows) +ℤ cover_noise p before class (cover p.back (length rows))

-- the finisher's calls for the newest of an epoch's rows: one finish a class
abbrev pub row_finishes : Making → ℕ → List (List ℕ) → List finisher.Call
row_finishes p before rows = map (λ class. finisher.finishes class (release_of p before rows class)) (range_with_len 0 p.setting.classes)

-- the finisher's calls for one answered call, after n rows in all, the epoch's being these
abbrev pub finishes_for : Making → ℕ → List (List ℕ) → Call → Answer → List finisher.Call
finishes_for p n rows call (opened number serial) = finisher.begins ∷ []
finishes_for p n rows call (stepped step) = row_finishes p (n - length rows) (epoch_after rows call (stepped step))
finishes_for p n rows call (closed taken units) = []
finishes_for p n rows call (published count) = []
finishes_for p n rows call (balance grant spent held) = []
finishes_for p n rows call (refused told) = []

abbrev pub finisher_calls : Making → ℕ → List (List ℕ) → List Call → List Answer → List finisher.Call
finisher_calls p n rows [] told = []
finisher_calls p n rows (call ∷ calls) [] = []
finisher_calls p n rows (call ∷ calls) (a ∷ rest) =
    finishes_for p n rows call a ++ finisher_calls p (rows_taken (a ∷ []) + n) (epoch_after rows call a) calls rest

-- after an accepted step a read answers what the finisher, as it was made, says to the true count plus the noise of the
-- cover, after all begins and finishes before: those of the run so far, and of the earlier classes of this row
abbrev pub Published : Making → Type 0
Published p =
    (calls : List Call) (row : List ℕ) (step class : ℕ)
    → AnswerTo p calls (steps row) (stepped step)
    → class < p.setting.classes
    → let rows = epoch_rows [] calls (answers (make p) calls) in
    let before = rows_taken (answers (make p) calls) - length rows in
    AnswerTo p (calls ++ steps row ∷ []) (reads class)
    (published (p.says (finisher_calls p 0 [] calls (answers (make p) calls) ++ take class (row_finishes p before (rows ++ row ∷ []))) class (release_of p before (rows ++ row ∷ []) class)))

-- a close spends the depth of the steps taken
abbrev pub SpendsDepth : Making → Type 0
SpendsDepth p =
    (calls : List Call) (number serial taken units : ℕ)
    → AnswerTo p calls (closes number serial) (closed taken units)
    → (taken ≡ length (epoch_rows [] calls (answers (make p) calls))) × (units ≡ depth p.back taken)

-- the law of every run
pub record EachRun (p : Making) : Type 0 where
  pub lawful : LawfulMaking p
  pub published-counts : Published p
  pub spends-depth : SpendsDepth p
  pub accurate : Accurate p

-- Every two stations

-- every answer is the same in both
abbrev pub SameAnswers : Type 0
SameAnswers = (p q : Making) (js : List Joint) → Pair p q js → answers (make q) (seconds js) ≡ answers (make p) (firsts js)

-- at any time a balance would show as many units spent and held as moved cells were drawn, or more, and no more than were
-- granted
abbrev pub WithinUnits : Type 0
WithinUnits =
    (p q : Making) (js : List Joint) → Pair p q js → (n : ℕ)
    → (spent : ℕ) × (held : ℕ) × AnswerTo p (take n (firsts js)) balances (balance p.setting.grant spent held)
    × (differing (drawn p (take n (firsts js))) p.cells q.cells ≤ spent + held)
    × (spent + held ≤ p.setting.grant)

-- which cells are moved depends on setting, plan, both lists and tape length alone. (The joint list is the two lists:
-- where rows differ they tell the class and the sign.)
abbrev pub SamePlaces : Type 0
SamePlaces =
    (p q p' q' : Making) (js : List Joint) → Pair p q js → Pair p' q' js
    → p.setting ≡ p'.setting → AgreeTo horizon p.back p'.back → length p.cells ≡ length p'.cells
    → (position : ℕ) → (cell_at p position ≡ cell_at q position) ↔ (cell_at p' position ≡ cell_at q' position)

-- the law of every two runs
pub record PairedRuns : Type 0 where
  pub same-answers : SameAnswers
  pub within-units : WithinUnits
  pub same-places : SamePlaces

-- What a station is, and what it answers to each of its five calls.
use Rattle.std.specs.Prelude.{ℕ, zero, suc, ◌+◌, ◌-◌, min, Bool, true, false, cond, not, ◌&&◌, List, [], ◌∷◌, ◌++◌, map, length, take, drop, replicate, ℤ, pos, ◌+ℤ◌, Some, None, Option, ◌==◌, nat_le, nat_lt, slice_index_or}
use Rattle.fault.specs.Told.{Told}
use Rattle.plan.specs.Plans.{horizon, back_asked, depth_asked}
use Rattle.finisher.specs.Finishers.{Says, after, begins, finishes}

pub record Setting : Type 0 where
  pub number : ℕ
  pub classes : ℕ
  pub grant : ℕ

-- what a class keeps in an epoch: its true count, its noise N 1, N 2, .. by step, and its newest published count
pub record Lane : Type 0 where
  pub count : ℕ
  pub noise : List ℤ
  pub published : ℤ

-- idle, or with one epoch open, by its horizon and the units that it holds
pub data Phase : Type 0 where
  idle : Phase
  running : (epoch units : ℕ) → Phase

pub record Station : Type 0 where
  pub setting : Setting
  -- the plan's back steps, the cells still on the tape, and what the finisher says
  pub back : ℕ → ℕ
  pub cells : List ℤ
  pub says : Says
  -- the account
  pub spent : ℕ
  pub held : ℕ
  -- the newest epoch: its serial, its steps so far and its classes
  pub serial : ℕ
  pub steps : ℕ
  pub lanes : List Lane
  pub phase : Phase

pub data Call : Type 0 where
  opens : (epoch : ℕ) → Call
  steps : (row : List ℕ) → Call
  closes : (number serial : ℕ) → Call
  reads : (class : ℕ) → Call
  balances : Call

pub data Answer : Type 0 where
  opened : (number serial : ℕ) → Answer
  stepped : (step : ℕ) → Answer
  closed : (steps units : ℕ) → Answer
  published : (count : ℤ) → Answer
  balance : (grant spent held : ℕ) → Answer
  refused : Told → Answer

-- Refusals

abbrev pub tell : ℕ → ℕ → ℕ → Told
tell number layer place = record { number = number; layer = layer; place = place }

-- the first condition that holds
abbrev pub first_told : List (Bool × Told) → Option Told
first_told [] = None
first_told ((holds, told) ∷ more) = cond holds (Some told) (first_told more)

abbrev pub is_open : Phase → Bool
is_open idle = false
is_open (running epoch units) = true

abbrev pub epoch_of : Phase → ℕ
epoch_of idle = 0
epoch_of (running epoch units) = epoch

abbrev pub units_of : Phase → ℕ
units_of idle = 0
units_of (running epoch units) = units

-- the first class whose count is above 1,000, or the number of classes
abbrev pub first_above : List ℕ → ℕ
first_above [] = 0
first_above (count ∷ row) = cond (nat_lt 1000 count) 0 (suc (first_above row))

abbrev pub free : Station → ℕ
free s = s.setting.grant - s.spent - s.held

-- what each call is refused for, in the order in which it is looked at
abbrev pub checks : Station → Call → List (Bool × Told)
checks s (opens epoch) =
    (is_open s.phase, tell 2 2 s.serial)
    ∷ (not (nat_le 1 epoch && nat_le epoch horizon), tell 3 2 epoch)
    ∷ (nat_le 65535 s.serial, tell 4 2 65535)
    ∷ (nat_lt (free s) (depth_asked s.back epoch), tell 5 3 (depth_asked s.back epoch))
    ∷ []
checks s (steps row) =
    (not (is_open s.phase), tell 6 2 0)
    ∷ (not (length row == s.setting.classes), tell 7 2 (length row))
    ∷ (nat_lt (first_above row) (length row), tell 8 2 (first_above row))
    ∷ (nat_le (epoch_of s.phase) s.steps, tell 9 2 (epoch_of s.phase))
    ∷ (nat_lt (length s.cells) s.setting.classes, tell 10 5 (length s.cells))
    ∷ []
checks s (closes number serial) =
    (not (is_open s.phase && (number == s.setting.number && serial == s.serial)), tell 12 2 serial) ∷ []
checks s (reads class) =
    (nat_le s.setting.classes class, tell 13 2 class) ∷ ((s.steps == 0), tell 14 2 0) ∷ []
checks s balances = []

-- A step

-- N 0 is 0, and N k the k-th noise
abbrev pub noise_after : List ℤ → ℕ → ℤ
noise_after noise zero = pos 0
noise_after noise (suc k) = slice_index_or noise k (pos 0)

-- a class takes its count and its cell: the true count grows, and the new noise is the cell and the noise of the back step
abbrev pub advance : ℕ → Lane → ℕ → ℤ → Lane
advance back lane count cell =
    record {
      count = lane.count + count;
      noise = lane.noise ++ (cell +ℤ noise_after lane.noise back) ∷ [];
      published = lane.published;
    }

abbrev pub all_advanced : ℕ → List Lane → List ℕ → List ℤ → List Lane
all_advanced back (lane ∷ lanes) (count ∷ row) (cell ∷ cells) = advance back lane count cell ∷ all_advanced back lanes row cells
all_advanced back (lane ∷ lanes) (count ∷ row) [] = []
all_advanced back (lane ∷ lanes) [] cells = []
all_advanced back [] row cells = []

-- the true count and its newest noise
abbrev pub release : Lane → ℤ
release lane = pos lane.count +ℤ noise_after lane.noise (length lane.noise)

-- the finisher's answers to releases of the classes from one on, and what it says then
abbrev pub answers_to : Says → ℕ → List ℤ → List ℤ
answers_to says class [] = []
answers_to says class (z ∷ releases) = says [] class z ∷ answers_to (after (finishes class z) says) (suc class) releases

abbrev pub says_after : Says → ℕ → List ℤ → Says
says_after says class [] = says
says_after says class (z ∷ releases) = says_after (after (finishes class z) says) (suc class) releases

abbrev pub all_published : List Lane → List ℤ → List Lane
all_published (lane ∷ lanes) (z ∷ answers) = record { count = lane.count; noise = lane.noise; published = z } ∷ all_published lanes answers
all_published (lane ∷ lanes) [] = []
all_published [] answers = []

-- the classes after a row, before and after they are published
abbrev pub advanced : Station → List ℕ → List Lane
advanced s row = all_advanced (back_asked s.back (suc s.steps)) s.lanes row (take s.setting.classes s.cells)

abbrev pub after_row : Station → List ℕ → Station
after_row s row =
    record {
      setting = s.setting;
      back = s.back;
      cells = drop s.setting.classes s.cells;
      says = says_after s.says 0 (map release (advanced s row));
      spent = s.spent;
      held = s.held;
      serial = s.serial;
      steps = suc s.steps;
      lanes = all_published (advanced s row) (answers_to s.says 0 (map release (advanced s row)));
      phase = s.phase;
    }

-- Open and close

abbrev pub empty_lane : Lane
empty_lane = record { count = 0; noise = []; published = pos 0 }

abbrev pub after_open : Station → ℕ → Station
after_open s epoch =
    record {
      setting = s.setting;
      back = s.back;
      cells = s.cells;
      says = after begins s.says;
      spent = s.spent;
      held = s.held + depth_asked s.back epoch;
      serial = suc s.serial;
      steps = 0;
      lanes = replicate s.setting.classes empty_lane;
      phase = running epoch (depth_asked s.back epoch);
    }

-- a close spends the depth of the steps taken, out of the units that the epoch holds
abbrev pub units_spent : Station → ℕ
units_spent s = min (depth_asked s.back s.steps) (units_of s.phase)

abbrev pub after_close : Station → Station
after_close s =
    record {
      setting = s.setting;
      back = s.back;
      cells = s.cells;
      says = s.says;
      spent = s.spent + units_spent s;
      held = s.held - units_of s.phase;
      serial = s.serial;
      steps = s.steps;
      lanes = s.lanes;
      phase = idle;
    }

-- Answers

abbrev pub lane_at : Station → ℕ → Lane
lane_at s class = slice_index_or s.lanes class empty_lane

abbrev pub accepted : Station → Call → Answer
accepted s (opens epoch) = opened s.setting.number (suc s.serial)
accepted s (steps row) = stepped (suc s.steps)
accepted s (closes number serial) = closed s.steps (units_spent s)
accepted s (reads class) = published (lane_at s class).published
accepted s balances = balance s.setting.grant s.spent s.held

abbrev pub changed : Station → Call → Station
changed s (opens epoch) = after_open s epoch
changed s (steps row) = after_row s row
changed s (closes number serial) = after_close s
changed s (reads class) = s
changed s balances = s

-- by a refusal, or none
abbrev pub answer_by : Option Told → Station → Call → Answer
answer_by (Some told) s call = refused told
answer_by None s call = accepted s call

abbrev pub station_by : Option Told → Station → Call → Station
station_by (Some told) s call = s
station_by None s call = changed s call

abbrev pub refusal : Station → Call → Option Told
refusal s call = first_told (checks s call)

abbrev pub answer : Station → Call → Answer
answer s call = answer_by (refusal s call) s call

abbrev pub next : Station → Call → Station
next s call = station_by (refusal s call) s call

-- The making

abbrev pub made : Setting → (ℕ → ℕ) → List ℤ → Says → Station
made setting back cells says =
    record {
      setting = setting;
      back = back;
      cells = cells;
      says = says;
      spent = 0;
      held = 0;
      serial = 0;
      steps = 0;
      lanes = replicate setting.classes empty_lane;
      phase = idle;
    }

-- What a fault tells: its number, its layer's number and its place.
use Rattle.std.specs.Prelude.{ℕ, Ok, Err, Result}
use Rattle.fault.specs.declared.Layer.{Layer}
use Rattle.fault.specs.declared.Layer.TheVariants.{Record, Station, Account, Plan, Tape, Finisher, Publication}
use Rattle.fault.specs.declared.Cause.{Cause}
use Rattle.fault.specs.declared.Cause.TheVariants.{OutOfRange, AlreadyOpen, Horizon, SerialsUsedUp, OverBudget, NoEpoch, RowLength, CountTooLarge, EpochFull, TapeShort, WrongHold, NoSuchClass, NothingPublished, CutShort, KindNotAllowed, LengthUnfit, NoRoom}
use Rattle.fault.specs.declared.Fault.{Fault}

abbrev pub layer_of : Layer → ℕ
layer_of Record = 1
layer_of Station = 2
layer_of Account = 3
layer_of Plan = 4
layer_of Tape = 5
layer_of Finisher = 6
layer_of Publication = 7

abbrev pub number_of : Cause → ℕ
number_of (OutOfRange n) = 1
number_of (AlreadyOpen n) = 2
number_of (Horizon n) = 3
number_of SerialsUsedUp = 4
number_of (OverBudget n) = 5
number_of NoEpoch = 6
number_of (RowLength n) = 7
number_of (CountTooLarge n) = 8
number_of (EpochFull n) = 9
number_of (TapeShort n) = 10
number_of (WrongHold n) = 12
number_of (NoSuchClass n) = 13
number_of NothingPublished = 14
number_of (CutShort n) = 16
number_of (KindNotAllowed n) = 17
number_of (LengthUnfit n) = 18
number_of (NoRoom n) = 19

abbrev pub place_of : Cause → ℕ
place_of (OutOfRange n) = n
place_of (AlreadyOpen n) = n
place_of (Horizon n) = n
place_of SerialsUsedUp = 65535
place_of (OverBudget n) = n
place_of NoEpoch = 0
place_of (RowLength n) = n
place_of (CountTooLarge n) = n
place_of (EpochFull n) = n
place_of (TapeShort n) = n
place_of (WrongHold n) = n
place_of (NoSuchClass n) = n
place_of NothingPublished = 0
place_of (CutShort n) = n
place_of (KindNotAllowed n) = n
place_of (LengthUnfit n) = n
place_of (NoRoom n) = n

-- a refusal as a reader sees it
pub record Told : Type 0 where
  pub number : ℕ
  pub layer : ℕ
  pub place : ℕ

abbrev pub told : Fault → Told
told f = record { number = number_of f.cause; layer = layer_of f.layer; place = place_of f.cause }

-- a call's answer, with a refusal as a reader sees it
abbrev pub answered : {X : Type 0} → Result X Fault → Result X Told
answered (Ok x) = Ok x
answered (Err f) = Err (told f)

-- What a station's calls answer, as the model has it.
use Rattle.std.specs.Prelude.{◌≡◌, ℕ, ◌<◌, ◌≤◌, true, false, cond, not, ◌&&◌, List, [], ◌∷◌, length, ℤ, Some, None, Ok, Err, Option, Result, nat_le, nat_lt, IfOk}
use Rattle.fault.specs.declared.Fault.{Fault}
use Rattle.fault.specs.Told.{Told, told}
use Rattle.fault.specs.declared.Cause.{Cause}
use Rattle.fault.specs.declared.Cause.TheVariants.{OutOfRange}
use Rattle.fault.specs.declared.Layer.TheVariants.{Station}
use Rattle.runs.specs.Model as model
use Rattle.runs.specs.Model.{tell, first_told, is_open, epoch_of, first_above}
use Rattle.station.specs.declared.Balance.{Balance}
use Rattle.station.specs.declared.Closed.{Closed}
use Rattle.station.specs.declared.hold.Hold.{Hold}
use Rattle.station.specs.declared.Lawful.{Lawful}
use Rattle.station.specs.declared.Setting.{Setting}
use Rattle.station.specs.View.{lawful_of, setting_of}

-- a refusal by the station
abbrev pub station_fault : Cause → Fault
station_fault cause = record { cause = cause; layer = Station }

abbrev pub opened_as : Result Hold Fault → model.Answer
opened_as (Ok hold) = model.opened hold.station hold.serial
opened_as (Err fault) = model.refused (told fault)

abbrev pub stepped_as : Result ℕ Fault → model.Answer
stepped_as (Ok step) = model.stepped step
stepped_as (Err fault) = model.refused (told fault)

-- a refused close hands the hold back
abbrev pub closed_as : Result Closed (Fault × Hold) → model.Answer
closed_as (Ok c) = model.closed c.steps c.units
closed_as (Err (fault, hold)) = model.refused (told fault)

abbrev pub HandedBack : Hold → Result Closed (Fault × Hold) → Type 0
HandedBack given (Ok c) = Unit {0}
HandedBack given (Err (fault, hold)) = hold ≡ given

abbrev pub read_as : Result ℤ Fault → model.Answer
read_as (Ok count) = model.published count
read_as (Err fault) = model.refused (told fault)

abbrev pub balance_as : Balance → model.Answer
balance_as b = model.balance b.grant b.spent b.held

-- the refusal, or none
abbrev pub refused_by : {X : Type 0} → Result X Fault → Option Told
refused_by (Ok x) = None
refused_by (Err fault) = Some (told fault)

-- 1 to 8 classes
abbrev pub class_count_of : ℕ → Result ℕ Fault
class_count_of classes = cond (nat_le 1 classes && nat_le classes 8) (Ok classes) (Err (station_fault (OutOfRange classes)))

-- a setting has 1 to 8 classes and at most 1,000,000 units
abbrev pub setting_refusal : model.Setting → Option Told
setting_refusal s =
    first_told ((not (nat_le 1 s.classes && nat_le s.classes 8), tell 1 2 s.classes) ∷ (nat_lt 1000000 s.grant, tell 1 3 s.grant) ∷ [])

-- a setting made lawful, or refused
abbrev pub IsLawfulOf : Setting → Result Lawful Fault → Type 0
IsLawfulOf setting result =
    (refused_by result ≡ setting_refusal (setting_of setting)) × IfOk result (λ lawful. lawful_of lawful ≡ setting_of setting)

-- what an open and a step look at
abbrev pub MayOpen : model.Station → ℕ → Type 0
MayOpen s epoch = (is_open s.phase ≡ false) × (1 ≤ epoch) × (epoch ≤ 1024) × (s.serial < 65535)

abbrev pub MayStep : model.Station → List ℕ → Type 0
MayStep s row =
    (is_open s.phase ≡ true) × (length row ≡ s.setting.classes) × (length row ≤ first_above row) × (s.steps < epoch_of s.phase)
    × (s.setting.classes ≤ length s.cells)

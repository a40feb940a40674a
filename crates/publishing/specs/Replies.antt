-- Replies of the code as entries, and the hold that is kept beside a station.
use Rattle.std.specs.Prelude.{◌≡◌, true, false, Some, None, Ok, Err, Option, Result}
use Rattle.std.proofs.Props.{props}
use Rattle.fault.specs.declared.Fault.{Fault}
use Rattle.fault.specs.Told.{Told, told}
use Rattle.record.specs.Kinds.{Entry}
use Rattle.record.specs.Seen.{entry_of}
use Rattle.record.specs.declared.kinds.Record.{Record}
use Rattle.station.specs.declared.hold.Hold.{Hold}
use Rattle.runs.specs.Model as station

abbrev pub replied_as : Result Record Fault → Result Entry Told
replied_as (Ok reply) = Ok (entry_of reply)
replied_as (Err fault) = Err (told fault)

-- a hold is kept exactly while an epoch is open, and is the one on it
abbrev pub OnEpoch : Option Hold → station.Station → Type 0
OnEpoch None s = station.is_open s.phase ≡ false
OnEpoch (Some hold) s =
    (station.is_open s.phase ≡ true) × (hold.station ≡ s.setting.number) × (hold.serial ≡ s.serial)

pub OnEpoch-prop : (hold : Option Hold) (s : station.Station) → IsProp (OnEpoch hold s)
OnEpoch-prop None s = hlevel props
OnEpoch-prop (Some hold) s = hlevel props

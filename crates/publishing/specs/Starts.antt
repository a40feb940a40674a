-- What follows a set-up, by what the code makes of it.
use Rattle.std.specs.Prelude.{◌≡◌, ℕ, List, [], ◌∷◌, length, ℤ, Ok, Err, Result}
use Rattle.fault.specs.declared.Fault.{Fault}
use Rattle.fault.specs.Told.{told}
use Rattle.finisher.specs.Kinds.{plain, none_held, rising}
use Rattle.plan.specs.Choice.{back_of}
use Rattle.record.specs.Kinds.{Entry, set_up}
use Rattle.record.specs.Reads.{found}
use Rattle.publication.specs.Works.{refused_by}
use Rattle.runs.specs.Model as station
use Rattle.station.specs.View.{lawful_of}
use Rattle.station.specs.declared.Setting.{Setting}
use Rattle.publishing.specs.declared.first.Start.{Start}
use Rattle.publishing.specs.Whole.{records_first, records_from}

-- the records by a setting and a plan, or a refusal
abbrev pub records_set_up : Result Start Fault → ℕ → List ℤ → List ℕ → List Entry
records_set_up (Ok start) room cells bs =
    records_from (length bs) room 2 (station.made (lawful_of start.setting) (back_of start.plan) cells (rising plain none_held)) bs
records_set_up (Err fault) room cells bs = refused_by (told fault) 1 ∷ []

-- they are those of the set-up with these numbers
abbrev pub SetUpBy : Setting → ℕ → Result Start Fault → Type 0
SetUpBy setting plan r =
    (room : ℕ) (cells : List ℤ) (bs : List ℕ)
    → records_first (found (set_up setting.number setting.classes plan setting.grant)) room cells bs ≡ records_set_up r room cells bs

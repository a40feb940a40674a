-- What a station's phase says: the open epoch, or none.
use Rattle.std.specs.Prelude.{ℕ, Some, None, Option}
use Rattle.runs.specs.Model as model
use Rattle.station.specs.declared.Epoch.{Epoch}

abbrev pub phase_of : Option Epoch → model.Phase
phase_of None = model.idle
phase_of (Some epoch) = model.running epoch.horizon epoch.units

-- the open epoch's horizon and units; 0 where none is open
abbrev pub horizon_in : Option Epoch → ℕ
horizon_in None = 0
horizon_in (Some epoch) = epoch.horizon

abbrev pub units_in : Option Epoch → ℕ
units_in None = 0
units_in (Some epoch) = epoch.units

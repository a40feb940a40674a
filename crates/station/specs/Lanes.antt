-- The classes of a station, as the model has them.
use Rattle.std.specs.Prelude.{ℕ, List, map, length, take, ℤ}
use Rattle.finisher.specs.Finishers.{Says}
use Rattle.runs.specs.Model as model
use Rattle.station.specs.declared.table.Lane.{Lane}

-- a class
abbrev pub lane_of : Lane → model.Lane
lane_of lane = record { count = lane.count; noise = lane.noise.items; published = lane.published }

-- all of them
abbrev pub lanes_of : List Lane → List model.Lane
lanes_of lanes = map lane_of lanes

-- with a row and a cell for each of its counts taken
abbrev pub advanced_by : ℕ → List Lane → List ℕ → List ℤ → List model.Lane
advanced_by back lanes row cells = model.all_advanced back (lanes_of lanes) row (take (length row) cells)

-- classes from one on, with what a finisher that says so answers to their releases
abbrev pub published_by : Says → ℕ → List model.Lane → List model.Lane
published_by says class lanes = model.all_published lanes (model.answers_to says class (map model.release lanes))

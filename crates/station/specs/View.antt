-- A station, as the model has it.
use Rattle.std.specs.Prelude.{ℕ, List, take, ℤ}
use Rattle.finisher.specs.Finishers.{Says}
use Rattle.runs.specs.Model as model
use Rattle.runs.specs.Law.{Making}
use Rattle.station.specs.declared.Lawful.{Lawful}
use Rattle.station.specs.declared.Setting.{Setting}
use Rattle.station.specs.declared.Station.{Station}
use Rattle.station.specs.Lanes.{lanes_of}
use Rattle.station.specs.Phases.{phase_of}

abbrev pub setting_of : Setting → model.Setting
setting_of s = record { number = s.number; classes = s.classes; grant = s.grant }

abbrev pub lawful_of : Lawful → model.Setting
lawful_of l = record { number = l.number; classes = l.classes; grant = l.account.grant }

-- what a station is made from
abbrev pub making_of : model.Setting → (ℕ → ℕ) → List ℤ → Says → Making
making_of setting back cells says = record { setting = setting; back = back; cells = cells; says = says }

-- by the meanings of its plan, its tape and its finisher
abbrev pub view_of : {P T F : Type 0} → (P → ℕ → ℕ) → (T → List ℤ) → (F → Says) → Station P T F → model.Station
view_of back cells says s =
    record {
      setting = record { number = s.number; classes = s.table.classes; grant = s.account.grant };
      back = back s.plan;
      cells = cells s.tape;
      says = says s.finisher;
      spent = s.account.spent;
      held = s.account.held;
      serial = s.serial;
      steps = s.table.steps;
      lanes = lanes_of (take s.table.classes s.table.lanes);
      phase = phase_of s.phase;
    }

-- The open epoch's horizon, and the back step of its next step.
use Rattle.std.proofs.Common.{◌≡◌, ℕ, ◌+◌, ◌<◌, ◌≤◌, Option, Some, None, refl, arith}
use Rattle.std.proofs.lemmas.Bool.{le-leb}
use Rattle.plan.specs.Plans.{Falls, back_asked}
use Rattle.runs.specs.Model.{epoch_of}
use Rattle.station.specs.declared.Epoch.{Epoch}
use Rattle.station.specs.Phases.{phase_of, horizon_in}

pub epoch-is : (phase : Option Epoch) → epoch_of (phase_of phase) ≡ horizon_in phase
epoch-is None = refl
epoch-is (Some epoch) = refl

pub back_low : (p : ℕ → ℕ) → Falls p → (steps : ℕ) → steps < 1024 → back_asked p (steps + 1) ≤ steps
back_low p falls steps h =
    let low : p (steps + 1) < steps + 1 = falls (steps + 1) (omega arith) (omega arith) in
    rw (le-leb 1 (steps + 1) (omega arith), le-leb (steps + 1) 1024 (omega arith)) (omega arith)

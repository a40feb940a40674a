-- What every station keeps.
use Rattle.std.proofs.Common.{◌≡◌, ℕ, suc, ◌+◌, ◌-◌, ◌<◌, ◌≤◌, min, true, false, List, map, length, take, ℤ, Some, None, Option, sym, refl, ◌∙◌, arith}
use Rattle.std.proofs.lemmas.List.{length-replicate, length-take, length_push, length-map}
use Rattle.fault.specs.Told.{Told}
use Rattle.plan.specs.Plans.{horizon, depth_asked}
use Rattle.finisher.specs.Finishers.{Says}
use Rattle.runs.specs.Model.{Setting, Station, Phase, idle, running, Call, opens, steps, closes, reads, balances, is_open, epoch_of, units_of, next, station_by, refusal, advanced, release, answers_to, empty_lane, made, after_open, after_row, after_close}
use Rattle.runs.proofs.Facts.{Opens, open-facts, Steps, step-facts}
use Rattle.runs.proofs.Lanes.{AllFrom, all-counts, all-from-new, advance-all, every-cell, length-advance, length-answers, length-publish, publish-all}

-- while idle nothing is held; an open epoch holds the depth of its horizon, and has no more steps than that
abbrev pub PhaseSound : (ℕ → ℕ) → ℕ → ℕ → Phase → Type 0
PhaseSound back held taken idle = held ≡ 0
PhaseSound back held taken (running t units) =
    (units ≡ depth_asked back t) × (held ≡ units) × (1 ≤ t) × (t ≤ horizon) × (taken ≤ t)

pub record Sound (s : Station) : Type 0 where
  pub lanes-long : length s.lanes ≡ s.setting.classes
  pub noise-long : AllFrom (λ _ lane. length lane.noise ≡ s.steps) 0 s.lanes
  pub budget : s.spent + s.held ≤ s.setting.grant
  pub phase-sound : PhaseSound s.back s.held s.steps s.phase

pub sound-made : (setting : Setting) (back : ℕ → ℕ) (cells : List ℤ) (says : Says) → Sound (made setting back cells says)
sound-made setting back cells says =
    record {
      lanes-long = length-replicate setting.classes empty_lane;
      noise-long = all-from-new (λ _ lane. length lane.noise ≡ 0) (λ _. refl) 0 setting.classes;
      budget = omega arith;
      phase-sound = refl;
    }

idle-by : (back : ℕ → ℕ) (held taken : ℕ) (phase : Phase) → is_open phase ≡ false → PhaseSound back held taken phase → held ≡ 0
idle-by back held taken idle h p = p
idle-by back held taken (running t u) h p = let z : ◌≡◌ {A = ℕ} 0 1 = cc in absurd (omega arith)

pub sound-open : (s : Station) (t : ℕ) → Opens s t → Sound s → Sound (after_open s t)
sound-open s t o h =
    let none = idle-by s.back s.held s.steps s.phase o.idle h.phase-sound in
    let room = o.room in
    record {
      lanes-long = length-replicate s.setting.classes empty_lane;
      noise-long = all-from-new (λ _ lane. length lane.noise ≡ 0) (λ _. refl) 0 s.setting.classes;
      budget = let b = h.budget in omega arith;
      phase-sound = (refl, omega arith, o.some, o.few, omega arith);
    }

step_by : (back : ℕ → ℕ) (held taken : ℕ) (phase : Phase) → is_open phase ≡ true → taken < epoch_of phase → PhaseSound back held taken phase → PhaseSound back held (suc taken) phase
step_by back held taken idle h l p = absurd (omega arith)
step_by back held taken (running t u) h l (a, b, c, d, e) = (a, b, c, d, omega arith)

pub cells-taken : (s : Station) (row : List ℕ) → Steps s row → Sound s → length (take s.setting.classes s.cells) ≡ length s.lanes
cells-taken s row f h = let e = f.enough in let l = h.lanes-long in simp length-take (omega arith)

pub advanced-long : (s : Station) (row : List ℕ) → Steps s row → Sound s → length (advanced s row) ≡ length s.lanes
advanced-long s row f h = length-advance _ s.lanes row _ (f.long ∙ sym h.lanes-long) (cells-taken s row f h)

pub answers-long : (s : Station) (row : List ℕ) → length (answers_to s.says 0 (map release (advanced s row))) ≡ length (advanced s row)
answers-long s row = length-answers s.says 0 (map release (advanced s row)) ∙ length-map (advanced s row) release

pub sound-step : (s : Station) (row : List ℕ) → Steps s row → Sound s → Sound (after_row s row)
sound-step s row f h =
    let longer = advance-all (λ _ lane. length lane.noise ≡ s.steps) (λ _ lane. length lane.noise ≡ suc s.steps) (λ _ x. x ≤ 1000) (λ _. Unit {0}) _ (λ class lane x cell n _ _. length_push lane.noise _ ∙ omega arith) 0 s.lanes row (take s.setting.classes s.cells) h.noise-long (all-counts (λ x. x ≤ 1000) 0 row f.small) (every-cell (take s.setting.classes s.cells)) in
    record {
      lanes-long = length-publish (advanced s row) _ (answers-long s row) ∙ (advanced-long s row f h ∙ h.lanes-long);
      noise-long = publish-all (λ _ lane. length lane.noise ≡ suc s.steps) (λ _ lane. length lane.noise ≡ suc s.steps) (λ _ _ _ n. n) 0 (advanced s row) _ longer;
      budget = h.budget;
      phase-sound = step_by s.back s.held s.steps s.phase f.inside f.more h.phase-sound;
    }

close-by : (back : ℕ → ℕ) (spent held taken grant : ℕ) (phase : Phase) → spent + held ≤ grant → PhaseSound back held taken phase → (held - units_of phase ≡ 0) × (spent + min (depth_asked back taken) (units_of phase) ≤ grant)
close-by back spent held taken grant idle b p = (omega arith, omega arith)
close-by back spent held taken grant (running t u) b (a, c, d, e, f) = (omega arith, omega arith)

pub sound-close : (s : Station) → Sound s → Sound (after_close s)
sound-close s h =
    let c = close-by s.back s.spent s.held s.steps s.setting.grant s.phase h.budget h.phase-sound in
    record {
      lanes-long = h.lanes-long;
      noise-long = h.noise-long;
      budget = omega (arith, c.0, c.1);
      phase-sound = c.0;
    }

sound-by : (s : Station) (call : Call) (o : Option Told) → refusal s call ≡ o → Sound s → Sound (station_by o s call)
sound-by s call (Some told) e h = h
sound-by s (opens t) None e h = sound-open s t (open-facts s t e) h
sound-by s (steps row) None e h = sound-step s row (step-facts s row e) h
sound-by s (closes number serial) None e h = sound-close s h
sound-by s (reads class) None e h = h
sound-by s balances None e h = h

pub sound-next : (s : Station) (call : Call) → Sound s → Sound (next s call)
sound-next s call h = sound-by s call (refusal s call) refl h

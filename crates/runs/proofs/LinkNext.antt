-- Two stations that are linked stay linked, and the rest of the second tape stays the rest of the first, moved.
use Rattle.std.proofs.Common.{◌≡◌, ℕ, suc, ◌≤◌, Bool, false, List, map, length, take, ℤ, pos, ◌+ℤ◌, ◌-ℤ◌, None, Option, sym, ap, ◌∙◌, subst, arith, w64, SFits}
use Rattle.std.specs.List.{AllByRecursion}
use Rattle.std.proofs.lemmas.List.{length-drop, length-map, length_push}
use Rattle.plan.specs.Plans.{horizon, Falls, back_asked}
use Rattle.plan.proofs.Asked.{back-asked}
use Rattle.finisher.specs.Finishers.{Alike, class_limit}
use Rattle.runs.specs.Model.{Setting, Station, advanced, all_advanced, release, answers_to, says_after, all_published, after_row}
use Rattle.runs.specs.Runs.{Change, Sight}
use Rattle.runs.proofs.Facts.{Steps}
use Rattle.runs.proofs.Lanes.{AllFrom, all-counts, advance-all, every-cell}
use Rattle.runs.proofs.Sound.{Sound, advanced-long}
use Rattle.runs.proofs.Pairs.{LaneLinked, Paired, Carries, lanes_step, releases-same, publish-linked, alike-row}
use Rattle.runs.proofs.Carry.{Seen}
use Rattle.runs.proofs.Linked.{Linked, back-alike}

-- a row: what changes, and by how much counts and cells differ
module _ (s t : Station) (v : Sight) (l : Linked s t v) (h : Sound s) (falls : Falls s.back) (row row' : List ℕ) (f : Steps s row) (few : suc s.steps ≤ horizon) (fits : AllByRecursion (SFits w64) (map release (advanced s row))) (limit : s.setting.classes ≤ class_limit) (new : Option Change) (more shift : ℕ → ℤ) (carries : (c : ℕ) → Carries v.change new more shift s.steps (s.back (suc s.steps)) c) (counts : Paired (λ c x y. pos y ≡ pos x +ℤ more c) 0 row row') (cells : Paired (λ c x y. y ≡ x -ℤ shift c) 0 (take s.setting.classes s.cells) (take s.setting.classes t.cells)) where
  k : ℕ
  k = back_asked s.back (suc s.steps)

  k-is : back_asked s.back (suc s.steps) ≡ s.back (suc s.steps)
  k-is = back-asked s.back (suc s.steps) (omega arith) few

  short : back_asked s.back (suc s.steps) ≤ s.steps
  short = let g = falls (suc s.steps) (omega arith) few in omega (arith, k-is)

  carries-k : (c : ℕ) → Carries v.change new more shift s.steps (back_asked s.back (suc s.steps)) c
  carries-k c = subst (λ (b : ℕ). Carries v.change new more shift s.steps b c) (sym k-is) (carries c)

  second_back : back_asked s.back (suc s.steps) ≡ back_asked t.back (suc t.steps)
  second_back = back-alike s.back t.back l.plan (suc s.steps) (omega arith) few ∙ ap (λ (n : ℕ). back_asked t.back (suc n)) l.taken

  second-classes : s.setting.classes ≡ t.setting.classes
  second-classes = ap (λ (x : Setting). x.classes) l.setting

  second-advanced : all_advanced (back_asked s.back (suc s.steps)) t.lanes row' (take s.setting.classes t.cells) ≡ advanced t row'
  second-advanced =
      ap (λ (b : ℕ). all_advanced b t.lanes row' (take s.setting.classes t.cells)) second_back
      ∙ ap (λ (n : ℕ). all_advanced (back_asked t.back (suc t.steps)) t.lanes row' (take n t.cells)) second-classes

  advanced-linked : Paired (LaneLinked new) 0 (advanced s row) (advanced t row')
  advanced-linked =
      subst (Paired (LaneLinked new) 0 (advanced s row)) second-advanced
      (lanes_step v.change new more shift s.steps (back_asked s.back (suc s.steps)) short 0 s.lanes t.lanes row row' (take s.setting.classes s.cells) (take s.setting.classes t.cells) carries-k h.noise-long l.lanes counts cells)

  long-now : AllFrom (λ _ lane. length lane.noise ≡ suc s.steps) 0 (advanced s row)
  long-now =
      advance-all (λ _ lane. length lane.noise ≡ s.steps) (λ _ lane. length lane.noise ≡ suc s.steps) (λ _ x. x ≤ 1000) (λ _. Unit {0}) _
      (λ class lane x cell c e _. length_push lane.noise _ ∙ omega arith)
      0 s.lanes row _ h.noise-long (all-counts (λ x. x ≤ 1000) 0 row f.small) (every-cell (take s.setting.classes s.cells))

  same-releases : map release (advanced s row) ≡ map release (advanced t row')
  same-releases =
      releases-same v.change new more shift s.steps (back_asked s.back (suc s.steps)) short 0 (advanced s row) (advanced t row') carries-k long-now advanced-linked

  finished : (answers_to s.says 0 (map release (advanced s row)) ≡ answers_to t.says 0 (map release (advanced s row))) × Alike (says_after s.says 0 (map release (advanced s row))) (says_after t.says 0 (map release (advanced s row)))
  finished =
      alike-row s.says t.says 0 (map release (advanced s row)) (let m = length-map (advanced s row) release in let a = advanced-long s row f h in let b = h.lanes-long in omega arith) fits l.says

  same-answers : answers_to s.says 0 (map release (advanced s row)) ≡ answers_to t.says 0 (map release (advanced t row'))
  same-answers = finished.0 ∙ ap (answers_to t.says 0) same-releases

  pub row-linked : (used : Bool) → (used ≡ false → new ≡ None) → Seen new (suc s.steps) → Linked (after_row s row) (after_row t row') (record { inside = v.inside; used = used; change = new })
  row-linked used unused seen =
      record {
        setting = l.setting;
        plan = l.plan;
        says = subst (λ (zs : List ℤ). Alike (says_after s.says 0 (map release (advanced s row))) (says_after t.says 0 zs)) same-releases finished.1;
        tape = length-drop s.setting.classes s.cells ∙ (let a = l.tape in let b = second-classes in omega arith ∙ sym (length-drop t.setting.classes t.cells));
        spent = l.spent;
        held = l.held;
        serial = l.serial;
        taken = ap suc l.taken;
        phase = l.phase;
        lanes = subst (λ (zs : List ℤ). Paired (LaneLinked new) 0 (all_published (advanced s row) (answers_to s.says 0 (map release (advanced s row)))) (all_published (advanced t row') zs)) same-answers (publish-linked new 0 (advanced s row) (advanced t row') (answers_to s.says 0 (map release (advanced s row))) advanced-linked);
        seen = seen;
        unused = unused;
      }

-- Two lists of calls side by side: every answer is the same in both.
use Rattle.std.proofs.Common.{◌≡◌, ℕ, zero, suc, ◌<◌, ◌≤◌, Bool, true, false, cond, ◌||◌, eqb, List, [], ◌∷◌, ◌++◌, map, take, drop, replicate, ℤ, pos, ◌-ℤ◌, Some, None, Option, sym, refl, ap, ◌∙◌, subst, arith}
use Rattle.std.specs.List.{range_with_len}
use Rattle.fault.specs.Told.{Told}
use Rattle.plan.specs.Plans.{horizon, Falls, depth_asked}
use Rattle.finisher.specs.Finishers.{class_limit}
use Rattle.runs.specs.Model.{Setting, Station, opens, steps, closes, reads, balances, refusal, answer_by, station_by, answer, next, empty_lane, noise_after, after_open, after_close}
use Rattle.runs.specs.Runs.{Joint, same, apart, first, second, Change, Sight, unseen, is_apart, sight_after, shift_of, shifts_at, shifts, moved_by, MayDiffer, Agreed, difference, answers}
use Rattle.runs.specs.Law.{Making, LawfulMaking, MadeAlike, Pair, make, firsts, seconds}
use Rattle.runs.proofs.Facts.{Steps, step-facts}
use Rattle.runs.proofs.Track.{few-by, releases-fit}
use Rattle.runs.proofs.Follow.{Following, follow-by, follow-made}
use Rattle.runs.proofs.Pairs.{LaneLinked, Paired, Carries, moved_row, alike-begun}
use Rattle.runs.proofs.Carry.{seen-later, carries_same, carries-apart, rows_same, rows_apart}
use Rattle.runs.proofs.Linked.{Linked, depth-alike, refusal-linked, answer-linked}
use Rattle.runs.proofs.LinkNext.{row-linked}

or-false : (a b : Bool) → (a || b) ≡ false → a ≡ false
or-false true b h = h
or-false false b h = refl

or-true : (a : Bool) → (a || true) ≡ true
or-true true = refl
or-true false = refl

zero-noise : (i : ℕ) → noise_after [] i ≡ noise_after [] i -ℤ pos 0
zero-noise zero = refl
zero-noise (suc i) = refl

new-linked : (class n : ℕ) → Paired (LaneLinked None) class (replicate n empty_lane) (replicate n empty_lane)
new-linked class zero = tt
new-linked class (suc n) =
    (record { published = refl; long = refl; count = refl; noise = λ i h. zero-noise i }, new-linked (suc class) n)

open-linked : (s t : Station) (v : Sight) (epoch : ℕ) → Linked s t v → Linked (after_open s epoch) (after_open t epoch) (record { inside = true; used = false; change = None })
open-linked s t v epoch l =
    let d = depth-alike s.back t.back l.plan epoch in
    let c = ap (λ (x : Setting). x.classes) l.setting in
    record {
      setting = l.setting;
      plan = l.plan;
      says = alike-begun s.says t.says l.says;
      tape = l.tape;
      spent = l.spent;
      held = let a = l.held in cc;
      serial = ap suc l.serial;
      taken = refl;
      phase = cc;
      lanes = subst (λ (n : ℕ). Paired (LaneLinked None) 0 (replicate s.setting.classes empty_lane) (replicate n empty_lane)) c (new-linked 0 s.setting.classes);
      seen = tt;
      unused = λ _. refl;
    }

close-linked : (s t : Station) (v : Sight) → Linked s t v → Linked (after_close s) (after_close t) (record { inside = false; used = v.used; change = v.change })
close-linked s t v l =
    let a = l.taken in let b = l.phase in
    let d : depth_asked s.back s.steps ≡ depth_asked t.back t.steps = depth-alike s.back t.back l.plan s.steps ∙ ap (depth_asked t.back) a in
    record {
      setting = l.setting;
      plan = l.plan;
      says = l.says;
      tape = l.tape;
      spent = let c = l.spent in cc;
      held = let c = l.held in cc;
      serial = l.serial;
      taken = l.taken;
      phase = refl;
      lanes = l.lanes;
      seen = l.seen;
      unused = l.unused;
    }

-- the tape behind a call, moved
abbrev Moved : Station → Station → List ℤ → Type 0
Moved s t rest = t.cells ≡ moved_by s.cells rest

module _ (p : Making) (lawful : LawfulMaking p) (s t : Station) (v : Sight) (n : ℕ) (rows : List (List ℕ)) (f : Following p lawful s n rows) (l : Linked s t v) where
  back_is : s.back ≡ p.back
  back_is = f.track.back

  classes-are : s.setting.classes ≡ p.setting.classes
  classes-are = ap (λ (x : Setting). x.classes) f.track.setting

  falls-here : Falls s.back
  falls-here = subst Falls (sym back_is) lawful.falls

  limit-here : s.setting.classes ≤ class_limit
  limit-here = let k = lawful.few in omega (arith, classes-are)

  -- the shifts of a row's cells
  abbrev row_shifts : Option Change → List ℤ
  row_shifts change = map (shift_of s.back change (suc s.steps)) (range_with_len 0 s.setting.classes)

  few-here : (row : List ℕ) → Steps s row → suc s.steps ≤ horizon
  few-here row g = few-by s.back s.held s.steps s.phase g.more f.sound.phase-sound

  -- the cells of a row, and the tape behind them
  row-cells : (row : List ℕ) → Steps s row → (change : Option Change) (rest : List ℤ) → Moved s t (row_shifts change ++ rest) → Paired (λ c x y. y ≡ x -ℤ shift_of s.back change (suc s.steps) c) 0 (take s.setting.classes s.cells) (take s.setting.classes t.cells) × (drop t.setting.classes t.cells ≡ moved_by (drop s.setting.classes s.cells) rest)
  row-cells row g change rest m =
      let r = moved_row (shift_of s.back change (suc s.steps)) s.setting.classes 0 s.cells rest g.enough in
      let c = ap (λ (x : Setting). x.classes) l.setting in (
        subst (λ (xs : List ℤ). Paired (λ c x y. y ≡ x -ℤ shift_of s.back change (suc s.steps) c) 0 (take s.setting.classes s.cells) (take s.setting.classes xs)) (sym m) r.0,
        ap (λ (k : ℕ). drop k t.cells) (sym c) ∙ (ap (drop s.setting.classes) m ∙ r.1),
      )

  fall-here : (row : List ℕ) → Steps s row → s.back (suc s.steps) < suc s.steps
  fall-here row g = falls-here (suc s.steps) (omega arith) (few-here row g)

  link-by : (j : Joint) (o : Option Told) (rest : List ℤ) → refusal s (first j) ≡ o → MayDiffer v j → Moved s t (shifts_at s.back s.setting.classes (sight_after v j (answer_by o s (first j))).change (answer_by o s (first j)) ++ rest) → Linked (station_by o s (first j)) (station_by o t (second j)) (sight_after v j (answer_by o s (first j))) × Moved (station_by o s (first j)) (station_by o t (second j)) rest
  link-by j (Some told) rest e d m = (
    record {
      setting = l.setting;
      plan = l.plan;
      says = l.says;
      tape = l.tape;
      spent = l.spent;
      held = l.held;
      serial = l.serial;
      taken = l.taken;
      phase = l.phase;
      lanes = l.lanes;
      seen = l.seen;
      unused = λ u. l.unused (or-false v.used (is_apart j) u);
    },
    m,
  )
  link-by (same (opens epoch)) None rest e d m = (open-linked s t v epoch l, m)
  link-by (same (closes number serial)) None rest e d m = (close-linked s t v l, m)
  link-by (same (reads class)) None rest e d m = (l, m)
  link-by (same balances) None rest e d m = (l, m)
  link-by (same (steps row)) None rest e d m =
      let g = step-facts s row e in
      let c = row-cells row g v.change rest m in (
        row-linked s t v l f.sound falls-here row row g (few-here row g) (releases-fit p lawful s n rows f.calls f.track row g f.sound) limit-here v.change (λ _. pos 0) (shift_of s.back v.change (suc s.steps)) (carries_same s.back s.steps (fall-here row g) v.change l.seen) (rows_same 0 row) c.0 (v.used || false) (λ u. l.unused (or-false v.used false u)) (seen-later v.change s.steps l.seen),
        c.1,
      )
  link-by (apart row class more) None rest e (inside, unused, within, small, other, enough) m =
      let g = step-facts s row e in
      let new : Change = record { step = suc s.steps; class = class; by = difference more } in
      let c = row-cells row g (Some new) rest m in
      let none = l.unused unused in (
        row-linked s t v l f.sound falls-here row _ g (few-here row g) (releases-fit p lawful s n rows f.calls f.track row g f.sound) limit-here (Some new) (λ c. cond (eqb c class) (difference more) (pos 0)) (shift_of s.back (Some new) (suc s.steps)) (λ k. subst (λ (old : Option Change). Carries old (Some new) (λ c. cond (eqb c class) (difference more) (pos 0)) (shift_of s.back (Some new) (suc s.steps)) s.steps (s.back (suc s.steps)) k) (sym none) (carries-apart s.back s.steps (fall-here row g) class (difference more) k)) (rows_apart row class more within enough) c.0 (v.used || true) (λ u. absurd (let z : true ≡ false = sym (or-true v.used) ∙ u in let y : ◌≡◌ {A = ℕ} 0 1 = cc in omega arith)) (omega arith, omega arith),
        c.1,
      )

  -- one call more, by the plan and the classes that the station was made with
  link-next : (j : Joint) (rest : List ℤ) → MayDiffer v j → Moved s t (shifts_at p.back p.setting.classes (sight_after v j (answer s (first j))).change (answer s (first j)) ++ rest) → Linked (next s (first j)) (next t (second j)) (sight_after v j (answer s (first j))) × Moved (next s (first j)) (next t (second j)) rest
  link-next j rest d m =
      let a = answer s (first j) in
      let c = (sight_after v j a).change in
      let here : Moved s t (shifts_at s.back s.setting.classes c a ++ rest) =
      subst (λ (b : ℕ → ℕ). Moved s t (shifts_at b s.setting.classes c a ++ rest)) (sym back_is) (subst (λ (k : ℕ). Moved s t (shifts_at p.back k c a ++ rest)) (sym classes-are) m) in
      let o = refusal s (first j) in
      let by = link-by j o rest refl d here in
      subst (λ (x : Option Told). Linked (next s (first j)) (station_by x t (second j)) (sight_after v j (answer s (first j))) × Moved (next s (first j)) (station_by x t (second j)) rest) (sym (refusal-linked s t v l j d)) by

module _ (p : Making) (lawful : LawfulMaking p) where
  -- all answers, from two stations that are linked
  answers-from : (js : List Joint) (s t : Station) (v : Sight) (n : ℕ) (rows : List (List ℕ)) → Following p lawful s n rows → Linked s t v → Agreed v js (answers s (firsts js)) → t.cells ≡ moved_by s.cells (shifts p.back p.setting.classes v js (answers s (firsts js))) → answers t (seconds js) ≡ answers s (firsts js)
  answers-from [] s t v n rows f l a m = refl
  answers-from (j ∷ js) s t v n rows f l (d, ds) m =
      let one = answer-linked s t v l j d in
      let by = link-next p lawful s t v n rows f l j (shifts p.back p.setting.classes (sight_after v j (answer s (first j))) js (answers (next s (first j)) (firsts js))) d m in
      let more = answers-from js (next s (first j)) (next t (second j)) (sight_after v j (answer s (first j))) _ _ (follow-by p lawful s n rows (first j) (refusal s (first j)) refl f) by.0 ds by.1 in
      cc

  alike-made : (q : Making) → MadeAlike p q → Linked (make p) (make q) unseen
  alike-made q a =
      record {
        setting = a.setting;
        plan = a.plan;
        says = a.finisher;
        tape = a.tape;
        spent = refl;
        held = refl;
        serial = refl;
        taken = refl;
        phase = refl;
        lanes = subst (λ (x : Setting). Paired (LaneLinked None) 0 (replicate p.setting.classes empty_lane) (replicate x.classes empty_lane)) a.setting (new-linked 0 p.setting.classes);
        seen = tt;
        unused = λ _. refl;
      }

pub same-answers : (p q : Making) (js : List Joint) → Pair p q js → answers (make q) (seconds js) ≡ answers (make p) (firsts js)
same-answers p q js r =
    answers-from p r.lawful-first js (make p) (make q) unseen 0 [] (follow-made p r.lawful-first) (alike-made p r.lawful-first q r.alike) r.agreed r.moved

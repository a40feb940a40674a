-- The moved cells drawn so far are at most the units spent and held.
use Rattle.std.proofs.Common.{◌≡◌, ℕ, zero, suc, ◌+◌, ◌<◌, ◌≤◌, min, Bool, true, false, cond, ◌&&◌, ◌||◌, eqb, List, [], ◌∷◌, ◌++◌, map, ℤ, pos, negsuc, Some, None, Option, sym, refl, ap, subst, arith, eq-eqb, ne_eqb, eqb-true}
use borrow.Author.Tests.{eqb-false}
use Rattle.std.specs.List.{range_with_len}
use Rattle.fault.specs.Told.{Told}
use Rattle.plan.specs.Plans.{holds, holding, total, depth, depth_asked}
use Rattle.plan.specs.Parts.{holding-depth, depth-grows, holds-le}
use Rattle.plan.proofs.Asked.{asked}
use Rattle.runs.specs.Model.{Station, Phase, idle, running, is_open, units_of, opens, steps, closes, reads, balances, Answer, opened, stepped, closed, published, balance, refused, refusal, answer_by, station_by, answer, next}
use Rattle.runs.specs.Runs.{Joint, same, apart, first, Change, Sight, is_apart, change_at, sight_after, shift_of, shifts_at, shifts, MayDiffer, Agreed, difference, answers, station_after}
use Rattle.runs.specs.Law.{Making, LawfulMaking, same_cell, firsts}
use Rattle.runs.proofs.Facts.{open-facts, close_facts, step-facts}
use Rattle.runs.proofs.Sound.{PhaseSound}
use Rattle.runs.proofs.Follow.{Following, follow-by}

-- 1 where a shift is not 0, and how many are
abbrev moves : ℤ → ℕ
moves z = cond (same_cell z (pos 0)) 0 1

abbrev pub nonzero : List ℤ → ℕ
nonzero [] = 0
nonzero (z ∷ zs) = moves z + nonzero zs

pub nonzero-append : (xs ys : List ℤ) → nonzero (xs ++ ys) ≡ nonzero xs + nonzero ys
nonzero-append [] ys = omega arith
nonzero-append (x ∷ xs) ys = let e = nonzero-append xs ys in omega arith

at-most-by : (b : Bool) → cond {A = ℕ} b 0 1 ≤ 1
at-most-by true = omega arith
at-most-by false = omega arith

one_at_most : (z : ℤ) → moves z ≤ 1
one_at_most z = at-most-by (same_cell z (pos 0))

same_self : (z : ℤ) → same_cell z z ≡ true
same_self (pos n) = eq-eqb n n refl
same_self (negsuc n) = eq-eqb n n refl

-- one class of a row

shift-other : (j c : ℕ) (b : Bool) (d : ℤ) → (c ≡ j → ⊥) → moves (cond (eqb c j && b) d (pos 0)) ≡ 0
shift-other j c b d h = rw (ne_eqb c j h)

none-later : (j : ℕ) (b : Bool) (d : ℤ) (n a : ℕ) → j < a → nonzero (map (λ c. cond (eqb c j && b) d (pos 0)) (range_with_len a n)) ≡ 0
none-later j b d zero a h = refl
none-later j b d (suc n) a h = let x = shift-other j a b d (λ e. omega arith) in let xs = none-later j b d n (a + 1) (omega arith) in omega arith

shift_none : (e : Bool) (d : ℤ) → moves (cond (e && false) d (pos 0)) ≡ 0
shift_none true d = refl
shift_none false d = refl

none-held : (j : ℕ) (d : ℤ) (n a : ℕ) → nonzero (map (λ c. cond (eqb c j && false) d (pos 0)) (range_with_len a n)) ≡ 0
none-held j d zero a = refl
none-held j d (suc n) a = let x = shift_none (eqb a j) d in let xs = none-held j d n (a + 1) in omega arith

one-by : (j : ℕ) (b : Bool) (d : ℤ) (n a : ℕ) (e : Bool) → eqb a j ≡ e → nonzero (map (λ c. cond (eqb c j && b) d (pos 0)) (range_with_len (a + 1) n)) ≤ 1 → nonzero (map (λ c. cond (eqb c j && b) d (pos 0)) (range_with_len a (suc n))) ≤ 1
one-by j b d n a true e rest =
    let k = eqb-true a j e in
    let x = one_at_most (cond (eqb a j && b) d (pos 0)) in
    let xs = none-later j b d n (a + 1) (omega arith) in omega arith
one-by j b d n a false e rest = let x = shift-other j a b d (eqb-false a j e) in omega arith

one_class : (j : ℕ) (b : Bool) (d : ℤ) (n a : ℕ) → nonzero (map (λ c. cond (eqb c j && b) d (pos 0)) (range_with_len a n)) ≤ 1
one_class j b d zero a = omega arith
one_class j b d (suc n) a = one-by j b d n a (eqb a j) refl (one_class j b d n (a + 1))

held-at-most : (j hold : ℕ) (d : ℤ) (n : ℕ) → hold ≤ 1 → nonzero (map (λ c. cond (eqb c j && eqb hold 1) d (pos 0)) (range_with_len 0 n)) ≤ hold
held-at-most j zero d n h = let e = none-held j d n 0 in omega arith
held-at-most j (suc zero) d n h = one_class j true d n 0
held-at-most j (suc (suc k)) d n h = absurd (omega arith)

-- the parts up to a step that hold the accepted difference
abbrev pub moved_in : (ℕ → ℕ) → Option Change → ℕ → ℕ
moved_in back None t = 0
moved_in back (Some c) t = holding back t c.step

holding-more : (back : ℕ → ℕ) (t s : ℕ) → holding back (suc t) s ≡ holding back t s + holds back (suc t) s
unfolding holding total
holding-more back t s = refl

zero-shifts : (n a : ℕ) → nonzero (map (λ (_ : ℕ). pos 0) (range_with_len a n)) ≡ 0
zero-shifts zero a = refl
zero-shifts (suc n) a = let e = zero-shifts n (a + 1) in omega arith

row-moves : (back : ℕ → ℕ) (change : Option Change) (t n : ℕ) → nonzero (map (shift_of back change (suc t)) (range_with_len 0 n)) + moved_in back change t ≤ moved_in back change (suc t)
row-moves back None t n = let e = zero-shifts n 0 in omega arith
row-moves back (Some c) t n =
    let h = held-at-most c.class (holds back (suc t) c.step) c.by n (holds-le back (suc t) c.step) in
    let m = holding-more back t c.step in omega arith

-- m moved cells so far: spent on while idle, and while an epoch is open those of its own beside them
abbrev pub Spends : ℕ → (ℕ → ℕ) → ℕ → ℕ → Option Change → Phase → Type 0
Spends m back spent t change idle = m ≤ spent
Spends m back spent t change (running epoch units) = m ≤ spent + moved_in back change t

moved-depth : (back : ℕ → ℕ) (change : Option Change) (t : ℕ) → moved_in back change t ≤ depth back t
moved-depth back None t = omega arith
moved-depth back (Some c) t = holding-depth back t c.step

spends-idle : (m : ℕ) (back : ℕ → ℕ) (spent t : ℕ) (change : Option Change) (phase : Phase) → is_open phase ≡ false → Spends m back spent t change phase → m ≤ spent
spends-idle m back spent t change idle h q = q
spends-idle m back spent t change (running e u) h q = let z : ◌≡◌ {A = ℕ} 0 1 = cc in absurd (omega arith)

-- units held cover the moved cells of the open epoch
pub spends-held : (m : ℕ) (back : ℕ → ℕ) (spent held t : ℕ) (change : Option Change) (phase : Phase) → PhaseSound back held t phase → Spends m back spent t change phase → m ≤ spent + held
spends-held m back spent held t change idle s q = omega arith
spends-held m back spent held t change (running e u) (a, b, c, d, f) q =
    let x = moved-depth back change t in
    let y = depth-grows back t e f in
    let z = asked e (depth back e) d in omega arith

spends-close : (m : ℕ) (back : ℕ → ℕ) (spent held t : ℕ) (change : Option Change) (phase : Phase) → is_open phase ≡ true → PhaseSound back held t phase → Spends m back spent t change phase → m ≤ spent + min (depth_asked back t) (units_of phase)
spends-close m back spent held t change idle o s q = let z : ◌≡◌ {A = ℕ} 0 1 = cc in absurd (omega arith)
spends-close m back spent held t change (running e u) o (a, b, c, d, f) q =
    let x = moved-depth back change t in
    let y = depth-grows back t e f in
    let z = asked e (depth back e) d in
    let w = asked t (depth back t) (omega arith) in
    let v : depth_asked back t ≤ u = omega arith in omega arith

spends-step : (m k : ℕ) (back : ℕ → ℕ) (spent t : ℕ) (old new : Option Change) (phase : Phase) → is_open phase ≡ true → k + moved_in back old t ≤ moved_in back new (suc t) → Spends m back spent t old phase → Spends (k + m) back spent (suc t) new phase
spends-step m k back spent t old new idle o h q = let z : ◌≡◌ {A = ℕ} 0 1 = cc in absurd (omega arith)
spends-step m k back spent t old new (running e u) o h q = omega arith

apart-moves : (back : ℕ → ℕ) (old : Option Change) (new : Change) (t n : ℕ) → old ≡ None → nonzero (map (shift_of back (Some new) (suc t)) (range_with_len 0 n)) + moved_in back old t ≤ moved_in back (Some new) (suc t)
apart-moves back old new t n e =
    subst (λ (o : Option Change). nonzero (map (shift_of back (Some new) (suc t)) (range_with_len 0 n)) + moved_in back o t ≤ moved_in back (Some new) (suc t)) (sym e) (let r = row-moves back (Some new) t n in omega arith)

-- an epoch that has not had its difference has none accepted
abbrev pub Unused : Sight → Type 0
Unused v = v.used ≡ false → v.change ≡ None

or-false : (a b : Bool) → (a || b) ≡ false → a ≡ false
or-false true b h = h
or-false false b h = refl

or-true : (a : Bool) → (a || true) ≡ false → ⊥
or-true true h = let z : ◌≡◌ {A = ℕ} 0 1 = cc in omega arith
or-true false h = let z : ◌≡◌ {A = ℕ} 0 1 = cc in omega arith

unused-step : (v : Sight) (j : Joint) (step : ℕ) → Unused v → (v.used || is_apart j) ≡ false → change_at step j v.change ≡ None
unused-step v (same call) step u h = u (or-false v.used false h)
unused-step v (apart row class more) step u h = absurd (or-true v.used h)

pub unused-next : (v : Sight) (j : Joint) (a : Answer) → Unused v → Unused (sight_after v j a)
unused-next v j (opened number serial) u = λ _. refl
unused-next v j (stepped step) u = unused-step v j step u
unused-next v j (closed taken units) u = u
unused-next v j (published count) u = u
unused-next v j (balance grant spent held) u = u
unused-next v j (refused told) u = λ h. u (or-false v.used (is_apart j) h)

module _ (p : Making) (lawful : LawfulMaking p) (s : Station) (v : Sight) (m n : ℕ) (rows : List (List ℕ)) (f : Following p lawful s n rows) (u : Unused v) where
  sound-here : PhaseSound p.back s.held s.steps s.phase
  sound-here = subst (λ (b : ℕ → ℕ). PhaseSound b s.held s.steps s.phase) f.track.back f.sound.phase-sound

  abbrev After : Joint → Option Told → Type 0
  After j o =
      Spends (nonzero (shifts_at p.back p.setting.classes (sight_after v j (answer_by o s (first j))).change (answer_by o s (first j))) + m) p.back (station_by o s (first j)).spent (station_by o s (first j)).steps (sight_after v j (answer_by o s (first j))).change (station_by o s (first j)).phase

  abbrev Here : ℕ → Type 0
  Here k = Spends k p.back s.spent s.steps v.change s.phase

  zero_more : Here m → Here (0 + m)
  zero_more q = subst Here (omega arith) q

  spends-by : (j : Joint) (o : Option Told) → refusal s (first j) ≡ o → MayDiffer v j → Here m → After j o
  spends-by j (Some told) e d q = zero_more q
  spends-by (same (opens epoch)) None e d q =
      let i = spends-idle m p.back s.spent s.steps v.change s.phase (open-facts s epoch e).idle q in omega arith
  spends-by (same (closes number serial)) None e d q =
      let i = spends-close m p.back s.spent s.held s.steps v.change s.phase (close_facts s number serial e) sound-here q in
      let b = ap (λ (b : ℕ → ℕ). depth_asked b s.steps) f.track.back in
      subst (λ (k : ℕ). 0 + m ≤ s.spent + min k (units_of s.phase)) (sym b) (omega arith)
  spends-by (same (reads class)) None e d q = zero_more q
  spends-by (same balances) None e d q = zero_more q
  spends-by (same (steps row)) None e d q =
      spends-step m _ p.back s.spent s.steps v.change v.change s.phase (step-facts s row e).inside (row-moves p.back v.change s.steps p.setting.classes) q
  spends-by (apart row class more) None e d q =
      spends-step m _ p.back s.spent s.steps v.change (Some (record { step = suc s.steps; class = class; by = difference more })) s.phase (step-facts s row e).inside (apart-moves p.back v.change (record { step = suc s.steps; class = class; by = difference more }) s.steps p.setting.classes (u d.1)) q

module _ (p : Making) (lawful : LawfulMaking p) where
  -- the cells that calls move, on those moved before, are at most the units spent and held
  pub moved-within : (js : List Joint) (s : Station) (v : Sight) (m n : ℕ) (rows : List (List ℕ)) → Following p lawful s n rows → Unused v → Agreed v js (answers s (firsts js)) → Spends m p.back s.spent s.steps v.change s.phase → m + nonzero (shifts p.back p.setting.classes v js (answers s (firsts js))) ≤ (station_after s (firsts js)).spent + (station_after s (firsts js)).held
  moved-within [] s v m n rows f u a q =
      let h = spends-held m p.back s.spent s.held s.steps v.change s.phase (sound-here p lawful s v m n rows f u) q in omega arith
  moved-within (j ∷ js) s v m n rows f u (d, ds) q =
      let a = answer s (first j) in
      let v' = sight_after v j a in
      let here = shifts_at p.back p.setting.classes v'.change a in
      let rest = shifts p.back p.setting.classes v' js (answers (next s (first j)) (firsts js)) in
      let one = spends-by p lawful s v m n rows f u j (refusal s (first j)) refl d q in
      let more = moved-within js (next s (first j)) v' (nonzero here + m) _ _ (follow-by p lawful s n rows (first j) (refusal s (first j)) refl f) (unused-next v j a u) ds one in
      let sum = nonzero-append here rest in
      omega (arith, more, sum)

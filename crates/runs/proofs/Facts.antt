-- What an accepted call tells.
use Rattle.std.proofs.Common.{◌≡◌, ℕ, suc, ◌<◌, ◌≤◌, Bool, true, false, cond, not, ◌&&◌, eqb, ltb, leb, ◌⊎◌, List, [], ◌∷◌, length, Some, None, Option, refl, inl, inr, arith, ltb-false, eqb-true, leb-false, leb-true}
use Rattle.std.specs.List.{AllByRecursion}
use Rattle.fault.specs.Told.{Told}
use Rattle.plan.specs.Plans.{horizon, depth_asked}
use Rattle.runs.specs.Model.{Station, opens, steps, closes, first_told, checks, is_open, epoch_of, free, first_above, refusal}

none-by : (b : Bool) (t : Told) (o : Option Told) → cond b (Some t) o ≡ None → (b ≡ false) × (o ≡ None)
none-by true t o h = let z : ◌≡◌ {A = ℕ} 0 1 = cc in absurd (omega arith)
none-by false t o h = (refl, h)

-- a call that is not refused meets none of the conditions
none-holds : (cs : List (Bool × Told)) → first_told cs ≡ None → AllByRecursion (λ c. c.0 ≡ false) cs
none-holds [] h = tt
none-holds ((b, t) ∷ cs) h = let n = none-by b t (first_told cs) h in (n.0, none-holds cs n.1)

not-false : (b : Bool) → not b ≡ false → b ≡ true
not-false true h = refl
not-false false h = let z : ◌≡◌ {A = ℕ} 0 1 = cc in absurd (omega arith)

le-by : (i t : ℕ) (b : Bool) → leb i t ≡ b → (i ≤ t) ⊎ (t < i)
le-by i t true e = inl (leb-true i t e)
le-by i t false e = inr (leb-false i t e)

pub le-or-gt : (i t : ℕ) → (i ≤ t) ⊎ (t < i)
le-or-gt i t = le-by i t (leb i t) refl

pub and_left : (a b : Bool) → (a && b) ≡ true → a ≡ true
and_left true b h = refl
and_left false b h = h

pub and_right : (a b : Bool) → (a && b) ≡ true → b ≡ true
and_right true b h = h
and_right false b h = let z : ◌≡◌ {A = ℕ} 0 1 = cc in absurd (omega arith)

pub record Opens (s : Station) (t : ℕ) : Type 0 where
  pub idle : is_open s.phase ≡ false
  pub some : 1 ≤ t
  pub few : t ≤ horizon
  pub room : depth_asked s.back t ≤ free s

pub open-facts : (s : Station) (t : ℕ) → refusal s (opens t) ≡ None → Opens s t
open-facts s t h =
    let n = none-holds (checks s (opens t)) h in
    let r = not-false (leb 1 t && leb t horizon) n.1.0 in
    record {
      idle = n.0;
      some = leb-true 1 t (and_left (leb 1 t) (leb t horizon) r);
      few = leb-true t horizon (and_right (leb 1 t) (leb t horizon) r);
      room = ltb-false (free s) (depth_asked s.back t) n.1.1.1.0;
    }

pub record Steps (s : Station) (row : List ℕ) : Type 0 where
  pub inside : is_open s.phase ≡ true
  pub long : length row ≡ s.setting.classes
  pub small : AllByRecursion (λ x. x ≤ 1000) row
  pub more : s.steps < epoch_of s.phase
  pub enough : s.setting.classes ≤ length s.cells

over_by : (b : Bool) (n : ℕ) (m : ℕ) → suc m ≤ cond b 0 (suc n) → (b ≡ false) × (m ≤ n)
over_by true n m h = absurd (omega arith)
over_by false n m h = (refl, omega arith)

none_over : (row : List ℕ) → length row ≤ first_above row → AllByRecursion (λ x. x ≤ 1000) row
none_over [] h = tt
none_over (x ∷ row) h =
    let b = over_by (ltb 1000 x) (first_above row) (length row) h in
    (ltb-false 1000 x b.0, none_over row b.1)

pub step-facts : (s : Station) (row : List ℕ) → refusal s (steps row) ≡ None → Steps s row
step-facts s row h =
    let n = none-holds (checks s (steps row)) h in
    record {
      inside = not-false (is_open s.phase) n.0;
      long = eqb-true (length row) s.setting.classes (not-false (eqb (length row) s.setting.classes) n.1.0);
      small = none_over row (ltb-false (first_above row) (length row) n.1.1.0);
      more = leb-false (epoch_of s.phase) s.steps n.1.1.1.0;
      enough = ltb-false (length s.cells) s.setting.classes n.1.1.1.1.0;
    }

pub close_facts : (s : Station) (number serial : ℕ) → refusal s (closes number serial) ≡ None → is_open s.phase ≡ true
close_facts s number serial h =
    and_left (is_open s.phase) _ (not-false (is_open s.phase && (eqb number s.setting.number && eqb serial s.serial)) (none-holds (checks s (closes number serial)) h).0)

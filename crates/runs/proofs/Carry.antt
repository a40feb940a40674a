-- A row that is the same in both lists, and one that differs: the shifts of its cells make up for the counts.
use Rattle.std.proofs.Common.{◌≡◌, ℕ, suc, ◌<◌, ◌≤◌, Bool, true, false, cond, ◌&&◌, eqb, leb, ◌⊎◌, List, [], ◌∷◌, length, get_or, set, ℤ, pos, ◌+ℤ◌, Some, None, Option, sym, refl, ap, ◌∙◌, subst, inl, inr, ⊎_elim, arith, get_or-set_other, get_or-set_same, eqb-true, le-leb}
use borrow.Author.Tests.{eqb-false, lt-leb}
use Rattle.std.proofs.lemmas.List.{length-set}
use Rattle.std.proofs.lemmas.Int.{ints}
use Rattle.plan.specs.Plans.{holds}
use Rattle.plan.specs.Parts.{holds-inside, holds-before}
use Rattle.runs.specs.Runs.{Change, shift_of, difference, other_count}
use Rattle.runs.proofs.Facts.{le-or-gt}
use Rattle.runs.proofs.Pairs.{count_shift, Carries, Paired, paired-from}

-- an accepted difference lies at a step that has been taken
abbrev pub Seen : Option Change → ℕ → Type 0
Seen None t = Unit {0}
Seen (Some c) t = (1 ≤ c.step) × (c.step ≤ t)

pub seen-later : (change : Option Change) (t : ℕ) → Seen change t → Seen change (suc t)
seen-later None t h = tt
seen-later (Some c) t (a, b) = (a, omega arith)

newer-by : (e a b : Bool) (by : ℤ) (hold : ℕ) → b ≡ true → ((a ≡ true) × (hold ≡ 0)) ⊎ ((a ≡ false) × (hold ≡ 1)) → cond (e && eqb hold 1) by (pos 0) +ℤ cond (e && a) by (pos 0) ≡ cond (e && b) by (pos 0)
newer-by false a b by hold h w = refl
newer-by true a b by hold h (inl (p, q)) = rw (h, p, q) (omega (arith, ints))
newer-by true a b by hold h (inr (p, q)) = rw (h, p, q) (omega (arith, ints))

level_by : (e b : Bool) (by : ℤ) → b ≡ true → cond e by (pos 0) ≡ cond (e && b) by (pos 0)
level_by false b by h = refl
level_by true b by h = rw h

plus-zero : (z : ℤ) → z ≡ z +ℤ pos 0
plus-zero z = omega (arith, ints)

-- a part holds the step, or its back step lies at it or behind it
held-or-not : (back : ℕ → ℕ) (t s : ℕ) → s ≤ t → ((leb s (back t) ≡ true) × (holds back t s ≡ 0)) ⊎ ((leb s (back t) ≡ false) × (holds back t s ≡ 1))
held-or-not back t s h =
    ⊎_elim (λ (le : s ≤ back t). inl (le-leb s (back t) le, holds-before back t s le))
    (λ (gt : back t < s). inr (lt-leb s (back t) gt, holds-inside back t s gt h)) (le-or-gt s (back t))

module _ (back : ℕ → ℕ) (t : ℕ) (falls : back (suc t) < suc t) where
  pub carries_same : (change : Option Change) → Seen change t → (class : ℕ) → Carries change change (λ _. pos 0) (shift_of back change (suc t)) t (back (suc t)) class
  carries_same None h class = record { counted = refl; older = λ _ _. refl; newer = refl; level = refl }
  carries_same (Some c) (one, le) class =
      let b = le-leb c.step (suc t) (omega arith) in
      record {
        counted = plus-zero (count_shift (Some c) class);
        older = λ _ _. refl;
        newer = newer-by (eqb class c.class) (leb c.step (back (suc t))) (leb c.step (suc t)) c.by (holds back (suc t) c.step) b (held-or-not back (suc t) c.step (omega arith));
        level = level_by (eqb class c.class) (leb c.step (suc t)) c.by b;
      }

  none-and : (e b : Bool) (by : ℤ) → b ≡ false → cond (e && b) by (pos 0) ≡ pos 0
  none-and false b by h = refl
  none-and true b by h = rw h

  pub carries-apart : (j : ℕ) (by : ℤ) (class : ℕ) → Carries None (Some (record { step = suc t; class = j; by = by })) (λ c. cond (eqb c j) by (pos 0)) (shift_of back (Some (record { step = suc t; class = j; by = by })) (suc t)) t (back (suc t)) class
  carries-apart j by class =
      let b = le-leb (suc t) (suc t) (omega arith) in
      record {
        counted = omega (arith, ints);
        older = λ i h. none-and (eqb class j) (leb (suc t) i) by (lt-leb (suc t) i (omega arith));
        newer = newer-by (eqb class j) (leb (suc t) (back (suc t))) (leb (suc t) (suc t)) by (holds back (suc t) (suc t)) b (held-or-not back (suc t) (suc t) (omega arith));
        level = level_by (eqb class j) (leb (suc t) (suc t)) by b;
      }

-- Rows

pub rows_same : (class : ℕ) (row : List ℕ) → Paired (λ c x y. pos y ≡ pos x +ℤ pos 0) class row row
rows_same class [] = tt
rows_same class (x ∷ row) = (plus-zero (pos x), rows_same (suc class) row)

other-by : (more : Bool) (x : ℕ) → (more ≡ false → 1 ≤ x) → pos (other_count more x) ≡ pos x +ℤ difference more
other-by true x h = omega (arith, ints)
other-by false x h = let l = h refl in omega (arith, ints)

apart_by : (e : Bool) (i j : ℕ) (more : Bool) (row : List ℕ) → eqb i j ≡ e → j < length row → (more ≡ false → 1 ≤ get_or row j 0) → pos (get_or (set row j (other_count more (get_or row j 0))) i 0) ≡ pos (get_or row i 0) +ℤ cond e (difference more) (pos 0)
apart_by true i j more row q h l =
    let k = eqb-true i j q in
    subst (λ (m : ℕ). pos (get_or (set row j (other_count more (get_or row j 0))) m 0) ≡ pos (get_or row m 0) +ℤ difference more) (sym k) (ap pos (get_or-set_same row j (other_count more (get_or row j 0)) 0 h) ∙ other-by more (get_or row j 0) l)
apart_by false i j more row q h l = ap pos (get_or-set_other row j i (other_count more (get_or row j 0)) 0 (eqb-false i j q)) ∙ plus-zero (pos (get_or row i 0))

pub rows_apart : (row : List ℕ) (j : ℕ) (more : Bool) → j < length row → (more ≡ false → 1 ≤ get_or row j 0) → Paired (λ c x y. pos y ≡ pos x +ℤ cond (eqb c j) (difference more) (pos 0)) 0 row (set row j (other_count more (get_or row j 0)))
rows_apart row j more h l =
    paired-from (λ c x y. pos y ≡ pos x +ℤ cond (eqb c j) (difference more) (pos 0)) 0 0 row (set row j (other_count more (get_or row j 0))) (sym (length-set row j (other_count more (get_or row j 0))))
    (λ i k. subst (λ (m : ℕ). pos (get_or (set row j (other_count more (get_or row j 0))) i 0) ≡ pos (get_or row i 0) +ℤ cond (eqb m j) (difference more) (pos 0)) (omega arith) (apart_by (eqb i j) i j more row refl h l))

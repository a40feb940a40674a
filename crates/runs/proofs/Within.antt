-- The law on units, and the same places.
use Rattle.std.proofs.Common.{◌≡◌, ℕ, zero, suc, ◌+◌, ◌*◌, ◌≤◌, Bool, true, false, cond, List, [], ◌∷◌, ◌++◌, length, take, ℤ, pos, negsuc, ◌-ℤ◌, Option, sym, refl, ap, ◌∙◌, subst, mul-zero, mul-one, mul-add, arith, eq-eqb, eqb-true}
use Rattle.std.proofs.lemmas.List.FromFn.{length-map-range_with_len}
use Rattle.std.proofs.lemmas.List.{take-map}
use Rattle.std.proofs.lemmas.Int.{ints}
use Rattle.runs.specs.Model.{Setting, Station, Call, balances, Answer, opened, stepped, closed, published, balance, refused, answer, next}
use Rattle.runs.specs.Runs.{Joint, first, Change, Sight, unseen, sight_after, shift_of, shifts_at, shifts, moved_by, Agreed, answers, station_after, rows_taken}
use Rattle.runs.specs.Law.{Making, LawfulMaking, Pair, same_cell, differing, firsts, make, drawn, AnswerTo}
use Rattle.runs.proofs.Follow.{follow, follow-made, answers_push, rows-taken-more}
use Rattle.runs.proofs.Units.{nonzero, moved-within}

-- Cells that differ are cells with a shift.

same-zero : (z : ℤ) → same_cell z (pos 0) ≡ true → z ≡ pos 0
same-zero (pos n) h = ap pos (eqb-true n 0 h)
same-zero (negsuc n) h = let z : ◌≡◌ {A = ℕ} 0 1 = cc in absurd (omega arith)

same_self : (z : ℤ) → same_cell z z ≡ true
same_self (pos n) = eq-eqb n n refl
same_self (negsuc n) = eq-eqb n n refl

differs-by : (x z : ℤ) (b : Bool) → same_cell z (pos 0) ≡ b → cond {A = ℕ} (same_cell x (x -ℤ z)) 0 1 ≤ cond b 0 1
differs-by x z true h =
    let e : x -ℤ z ≡ x = omega (arith, ints, same-zero z h) in
    subst (λ (y : ℤ). cond {A = ℕ} (same_cell x y) 0 1 ≤ 0) (sym e) (rw (same_self x) (omega arith))
differs-by x z false h = one (same_cell x (x -ℤ z))
  where
    one : (b : Bool) → cond {A = ℕ} b 0 1 ≤ 1
    one true = omega arith
    one false = omega arith

differing-self : (m : ℕ) (xs : List ℤ) → differing m xs xs ≡ 0
differing-self zero xs = refl
differing-self (suc m) [] = refl
differing-self (suc m) (x ∷ xs) = let e = differing-self m xs in rw (same_self x) (omega arith)

differing-moved : (m : ℕ) (xs zs : List ℤ) → differing m xs (moved_by xs zs) ≤ nonzero (take m zs)
differing-moved zero xs zs = omega arith
differing-moved (suc m) [] zs = omega arith
differing-moved (suc m) (x ∷ xs) [] = let e = differing-self (suc m) (x ∷ xs) in omega arith
differing-moved (suc m) (x ∷ xs) (z ∷ zs) =
    let a = differs-by x z (same_cell z (pos 0)) refl in
    let b = differing-moved m xs zs in omega arith

-- Earlier calls

take-over : {X : Type 0} (xs ys : List X) (m n : ℕ) → n ≡ length xs + m → take n (xs ++ ys) ≡ xs ++ take m ys
take-over [] ys m n h = ap (λ (k : ℕ). take k ys) (omega arith)
take-over (x ∷ xs) ys m zero h = absurd (omega arith)
take-over (x ∷ xs) ys m (suc n) h = ap (λ zs. x ∷ zs) (take-over xs ys m n (omega arith))

shifts-long : (back : ℕ → ℕ) (k : ℕ) (change : Option Change) (a : Answer) → length (shifts_at back k change a) ≡ k * rows_taken (a ∷ [])
shifts-long back k change (opened number serial) = sym (mul-zero k)
shifts-long back k change (stepped step) = length-map-range_with_len (shift_of back change step) 0 k ∙ sym (mul-one k)
shifts-long back k change (closed taken units) = sym (mul-zero k)
shifts-long back k change (published count) = sym (mul-zero k)
shifts-long back k change (balance grant spent held) = sym (mul-zero k)
shifts-long back k change (refused told) = sym (mul-zero k)

module _ (p : Making) (lawful : LawfulMaking p) where
  abbrev K : ℕ
  K = p.setting.classes

  shifts-front : (n : ℕ) (js : List Joint) (s : Station) (v : Sight) → take (p.setting.classes * rows_taken (answers s (firsts (take n js)))) (shifts p.back p.setting.classes v js (answers s (firsts js))) ≡ shifts p.back p.setting.classes v (take n js) (answers s (firsts (take n js)))
  shifts-front zero js s v = ap (λ (k : ℕ). take k (shifts p.back p.setting.classes v js (answers s (firsts js)))) (mul-zero p.setting.classes)
  shifts-front (suc n) [] s v = ap (λ (k : ℕ). take k []) (mul-zero p.setting.classes)
  shifts-front (suc n) (j ∷ js) s v =
      let a = answer s (first j) in
      let v' = sight_after v j a in
      let as' = answers (next s (first j)) (firsts (take n js)) in
      let here = shifts_at p.back p.setting.classes v'.change a in
      let long = shifts-long p.back p.setting.classes v'.change a in
      let m1 = ap (λ (x : ℕ). p.setting.classes * x) (rows-taken-more a as') in
      let m2 = mul-add p.setting.classes (rows_taken (a ∷ [])) (rows_taken as') in
      take-over here (shifts p.back p.setting.classes v' js (answers (next s (first j)) (firsts js))) (p.setting.classes * rows_taken as') _ (omega (arith, long, m1, m2))
      ∙ ap (λ (zs : List ℤ). here ++ zs) (shifts-front n js (next s (first j)) v')

  agreed-front : (n : ℕ) (js : List Joint) (s : Station) (v : Sight) → Agreed v js (answers s (firsts js)) → Agreed v (take n js) (answers s (firsts (take n js)))
  agreed-front zero js s v a = tt
  agreed-front (suc n) [] s v a = tt
  agreed-front (suc n) (j ∷ js) s v (d, ds) = (d, agreed-front n js (next s (first j)) (sight_after v j (answer s (first j))) ds)

pub within-units : (p q : Making) (js : List Joint) → Pair p q js → (n : ℕ)
    → (spent : ℕ) × (held : ℕ) × AnswerTo p (take n (firsts js)) balances (balance p.setting.grant spent held)
    × (differing (drawn p (take n (firsts js))) p.cells q.cells ≤ spent + held)
    × (spent + held ≤ p.setting.grant)
within-units p q js r n =
    let lawful = r.lawful-first in
    let calls = firsts (take n js) in
    let s = station_after (make p) calls in
    let f = follow p lawful calls in
    let here = shifts p.back p.setting.classes unseen js (answers (make p) (firsts js)) in
    let some = agreed-front p lawful n js (make p) unseen r.agreed in
    let moved = moved-within p lawful (take n js) (make p) unseen 0 0 [] (follow-made p lawful) (λ _. refl) some (omega arith) in
    let d = differing-moved (drawn p calls) p.cells here in
    let e = ap nonzero (shifts-front p lawful n js (make p) unseen) in
    let grant = ap (λ (x : Setting). x.grant) f.track.setting in
    let bal : AnswerTo p calls balances (balance p.setting.grant s.spent s.held) =
    answers_push (make p) calls balances ∙ ap (λ (g : ℕ). answers (make p) calls ++ balance g s.spent s.held ∷ []) grant in
    let within : differing (drawn p calls) p.cells q.cells ≤ s.spent + s.held =
    subst (λ (xs : List ℤ). differing (drawn p calls) p.cells xs ≤ s.spent + s.held) (sym r.moved) (omega (arith, d, e, moved)) in
    let budget : s.spent + s.held ≤ p.setting.grant = let b = f.sound.budget in omega (arith, b, grant) in
    subst (λ (cs : List Call). (spent : ℕ) × (held : ℕ) × AnswerTo p cs balances (balance p.setting.grant spent held) × (differing (drawn p cs) p.cells q.cells ≤ spent + held) × (spent + held ≤ p.setting.grant)) (sym (take-map first n js)) (s.spent, s.held, bal, within, budget)

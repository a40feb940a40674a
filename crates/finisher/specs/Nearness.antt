-- An accepted and a refused finish, and the greater of two numbers near a true count.
use Rattle.std.specs.Prelude.{◌≡◌, ℕ, zero, suc, ◌+◌, ◌<◌, ◌≤◌, Bool, true, false, cond, List, [], ◌∷◌, ◌++◌, get_or, replicate, ℤ, pos, ◌≤ℤ◌, Ok, Err, nat_lt, slice_index_or, slice_set, refl}
use Rattle.std.proofs.Common.{sym, ap, subst, ◌∙◌, arith, ltb-true, ltb-false, lt-ltb, get_or-set_other}
use Rattle.std.specs.Int.{int_max}
use Rattle.std.proofs.lemmas.Int.{ints, clamps}
use Rattle.fault.specs.declared.Fault.{Fault}
use Rattle.finisher.specs.Finishers.{class_limit, Call, begins, finishes, after, Says, Stands, finished, Same, Keeps, Within}
use Rattle.finisher.specs.Kinds.{plain, everywhere, floored, none_held, raised, held_after, rising, held_near}

ok-taken : (b : Bool) (u y : ℤ) (f : Fault) → Ok y ≡ cond b (Ok u) (Err f) → (b ≡ true) × (y ≡ u)
ok-taken true u y f e = (refl, cc)
ok-taken false u y f e = let z : ◌≡◌ {A = ℕ} 0 1 = cc in absurd (omega arith)

err-taken : (b : Bool) (u : ℤ) (f g : Fault) → Err f ≡ cond b (Ok u) (Err g) → (b ≡ false) × (f ≡ g)
err-taken true u f g e = let z : ◌≡◌ {A = ℕ} 0 1 = cc in absurd (omega arith)
err-taken false u f g e = (refl, cc)

-- where a finish was accepted there is such a class, and the answer is what was said
pub accepted : (says : Says) (class : ℕ) (release y : ℤ) → Ok y ≡ finished says class release → (class < class_limit) × (y ≡ says [] class release)
accepted says class release y e =
    let t = ok-taken (nat_lt class class_limit) (says [] class release) y _ e in
    (ltb-true class class_limit t.0, t.1)

-- where a finish was refused there is no such class, and any finisher refuses it so
pub refused : (says : Says) (class : ℕ) (release : ℤ) (f : Fault) → Err f ≡ finished says class release → (class_limit ≤ class) × ((other : Says) → Err f ≡ finished other class release)
refused says class release f e =
    let t = err-taken (nat_lt class class_limit) (says [] class release) f _ e in
    (ltb-false class class_limit t.0, λ other. rw t.0 (ap Err t.1))

-- the greater of a number near a true count and one that is not too large is as near
pub within-max : (error count : ℕ) (z low : ℤ) → Within error z count → low ≤ℤ pos (count + error) → Within error (int_max z low) count
within-max error count z low w h = (omega (arith, ints, clamps, w.0, w.1), omega (arith, ints, clamps, w.0, w.1))

-- where there is such a class, a finish is accepted
pub answered : (says : Says) (class : ℕ) (release : ℤ) → class < class_limit → Ok (says [] class release) ≡ finished says class release
answered says class release h = rw (lt-ltb class class_limit h)

-- the same places below, and equal numbers held
pub same-near : {says says' : Says} {stands stands' : Stands} {held held' : List ℤ} → says ≡ says' → Same stands stands' → held ≡ held' → Same (held_near says stands held) (held_near says' stands' held')
same-near {says} {says'} {stands} {stands'} {held} {held'} p q r calls class error count =
    let e : get_or (held_after says held calls) class (pos 0) ≡ get_or (held_after says' held' calls) class (pos 0) = cc in (
      λ s. ((q calls class error count).0 s.0, subst (λ (z : ℤ). z ≤ℤ pos (count + error)) e s.1),
      λ s. ((q calls class error count).1 s.0, subst (λ (z : ℤ). z ≤ℤ pos (count + error)) (sym e) s.1),
    )

-- What is held after one call more.

set_below : (held : List ℤ) (class limit : ℕ) (y : ℤ) → y ≤ℤ pos limit → slice_index_or (slice_set held class y) class (pos 0) ≤ℤ pos limit
set_below [] class limit y h = omega (arith, ints)
set_below (x ∷ held) zero limit y h = h
set_below (x ∷ held) (suc class) limit y h = set_below held class limit y h

held-begun : (below : Says) (held : List ℤ) (calls : List Call) → held_after below held (calls ++ begins ∷ []) ≡ none_held
held-begun below held [] = refl
held-begun below held (begins ∷ calls) = held-begun (after begins below) none_held calls
held-begun below held (finishes i z ∷ calls) = held-begun (after (finishes i z) below) (slice_set held i (raised below held i z)) calls

held-finished : (below : Says) (held : List ℤ) (calls : List Call) (class : ℕ) (z : ℤ) → held_after below held (calls ++ finishes class z ∷ []) ≡ slice_set (held_after below held calls) class (rising below held calls class z)
held-finished below held [] class z = refl
held-finished below held (begins ∷ calls) class z = held-finished (after begins below) none_held calls class z
held-finished below held (finishes i y ∷ calls) class z =
    held-finished (after (finishes i y) below) (slice_set held i (raised below held i y)) calls class z

zeros : (n class : ℕ) → slice_index_or (replicate n (pos 0)) class (pos 0) ≡ pos 0
zeros zero class = refl
zeros (suc n) zero = refl
zeros (suc n) (suc class) = zeros n class

none-held : (class error : ℕ) → slice_index_or none_held class (pos 0) ≤ℤ pos (0 + error)
none-held class error = omega (arith, ints, zeros class_limit class)

pub plain-keeps : Keeps plain everywhere
plain-keeps =
    record {
      fresh = λ calls class error l c e. tt;
      near = λ calls class release error old new l c s u b e w. (w, tt);
      others = λ calls class release other error count l c n. (λ s. s, λ s. s);
    }

module _ (says : Says) (stands : Stands) (keeps : Keeps says stands) where
  pub floor-keeps : Keeps (floored says) stands
  floor-keeps =
      record {
        fresh = keeps.fresh;
        near = λ calls class release error old new l c s u b e w.
            let n = keeps.near calls class release error old new l c s u b e w in
            (within-max error new (says calls class release) (pos 0) n.0 (omega (arith, ints)), n.1);
        others = keeps.others;
      }

  pub rising-keeps : (held : List ℤ) → Keeps (rising says held) (held_near says stands held)
  rising-keeps held =
      record {
        fresh = λ calls class error l c e.
            (keeps.fresh calls class error l c e, subst (λ (h : List ℤ). slice_index_or h class (pos 0) ≤ℤ pos (0 + error)) (sym (held-begun says held calls)) (none-held class error));
        near = λ calls class release error old new l c s u b e w.
            let n = keeps.near calls class release error old new l c s.0 u b e w in
            let top = within-max error new (says calls class release) (slice_index_or (held_after says held calls) class (pos 0)) n.0 (omega (arith, ints, s.1)) in
            let low = set_below (held_after says held calls) class (new + error) (rising says held calls class release) top.0 in
            (top, (n.1, subst (λ (h : List ℤ). slice_index_or h class (pos 0) ≤ℤ pos (new + error)) (sym (held-finished says held calls class release)) low));
        others = λ calls class release other error count l c n.
            let o = keeps.others calls class release other error count l c n in
            let kept = ap (λ (h : List ℤ). get_or h other (pos 0)) (held-finished says held calls class release) ∙ get_or-set_other (held_after says held calls) class other (rising says held calls class release) (pos 0) n in
            (λ s. (o.0 s.0, subst (λ (z : ℤ). z ≤ℤ pos (count + error)) (sym kept) s.1), λ s. (o.1 s.0, subst (λ (z : ℤ). z ≤ℤ pos (count + error)) kept s.1));
      }

-- A record behind those that are written.
use Rattle.std.proofs.Common.{◌≡◌, ℕ, ◌-◌, ◌≤◌, min, Bool, true, false, cond, leb, List, [], ◌++◌, length, take, drop, Err, sym, refl, ap, ◌∙◌, arith, le-leb, leb-false, leb-true}
use borrow.Rule.Slice.PartMut.{put_mid}
use Rattle.std.proofs.lemmas.List.{append-nil, drop_all, length-drop, take_all, take_rest}
use Rattle.record.specs.Kinds.{Entry, kind_of}
use Rattle.record.specs.Writes.{output_after}
use Rattle.publication.specs.Works.{added_with, kind_not_taken, output_added, output_with, taken, written_with}

-- the place is where the written bytes end, or the output's end
module _ (written : ℕ) (out : List ℕ) (at : ℕ) (is : at ≡ min written (length out)) where
  same-front : take at out ≡ take written out
  same-front = front_by (leb written (length out)) refl
    where
      front_by : (b : Bool) → leb written (length out) ≡ b → take at out ≡ take written out
      front_by true e = let l = leb-true written (length out) e in ap (λ (n : ℕ). take n out) (omega arith)
      front_by false e = let l = leb-false written (length out) e in take_all at out (omega arith) ∙ sym (take_all written out (omega arith))

  same_back : drop at out ≡ drop written out
  same_back = back_by (leb written (length out)) refl
    where
      back_by : (b : Bool) → leb written (length out) ≡ b → drop at out ≡ drop written out
      back_by true e = let l = leb-true written (length out) e in ap (λ (n : ℕ). drop n out) (omega arith)
      back_by false e = let l = leb-false written (length out) e in drop_all at out (omega arith) ∙ sym (drop_all written out (omega arith))

  pub part-long : length (take (length out - at) (drop at out)) ≡ length out - written
  part-long = ap length (take_rest out at) ∙ (length-drop at out ∙ omega arith)

  -- the output after a write into the part behind
  pub output-then : (e : Entry) (part : List ℕ) → part ≡ output_after e (take (length out - at) (drop at out)) → put_mid at (length out - at) out part ≡ take written out ++ output_after e (drop written out)
  output-then e part p =
      let none : drop (length out - at) (drop at out) ≡ [] = drop_all (length out - at) (drop at out) (let l = length-drop at out in omega arith) in
      let same : part ≡ output_after e (drop written out) = p ∙ ap (output_after e) (take_rest out at ∙ same_back) in
      ap (λ (xs : List ℕ). take at out ++ (part ++ xs)) none ∙ (ap (λ (xs : List ℕ). take at out ++ xs) (append-nil part) ∙ (ap (λ (xs : List ℕ). xs ++ part) same-front ∙ ap (λ (xs : List ℕ). take written out ++ xs) same))

-- a record of a kind that is taken
module _ (e : Entry) (low : 33 ≤ kind_of e) (high : kind_of e ≤ 36) where
  is-taken : taken (kind_of e) ≡ true
  is-taken = rw (le-leb 33 (kind_of e) low, le-leb (kind_of e) 36 high)

  pub added-taken : (written size : ℕ) → written_with written e size ≡ added_with written e size
  added-taken written size = sym (ap (λ (b : Bool). cond b (written_with written e size) (Err (kind_not_taken (kind_of e)))) is-taken)

  pub output-taken : (written : ℕ) (out : List ℕ) → output_with written e out ≡ output_added written e out
  output-taken written out = sym (ap (λ (b : Bool). cond b (output_with written e out) out) is-taken)

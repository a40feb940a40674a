-- Totals so far, and those of what is left.
use Rattle.std.proofs.Common.{◌≡◌, ℕ, zero, suc, ◌+◌, ◌-◌, ◌<◌, ◌≤◌, Bool, true, false, cond, eqb, leb, List, [], ◌∷◌, length, drop, sym, refl, ap, ◌∙◌, subst, add-zero, add_assoc, zero-add, arith, leb-true}
use Rattle.std.proofs.lemmas.List.{length-drop}
use Rattle.record.specs.Reads.{Answer, found, nothing, faulty, announced, answer_to, refusal, rest_after}
use Rattle.listing.specs.declared.Summary.{Summary}
use Rattle.listing.specs.Totals.{none, plus, counted, goes_on, totals, totals_in}

-- s so far, the rest still to come, out of t in all
pub record Left (s : Summary) (rest : List ℕ) (t : Summary) : Type 0 where
  pub turns : ℕ
  pub enough : length rest ≤ turns
  pub sum : plus s (totals_in turns rest) ≡ t

plus_none : (s : Summary) → plus s none ≡ s
plus_none s = rw (add-zero s.records, add-zero s.faults, add-zero s.bytes)

plus_assoc : (a b c : Summary) → plus (plus a b) c ≡ plus a (plus b c)
plus_assoc a b c = rw (add_assoc a.records b.records c.records, add_assoc a.faults b.faults c.faults, add_assoc a.bytes b.bytes c.bytes)

none-plus : (s : Summary) → plus none s ≡ s
none-plus s = rw (zero-add s.records, zero-add s.faults, zero-add s.bytes)

-- one reading, the last or one of more
stop-sum : (s t c r : Summary) (b : Bool) → plus s (plus c (cond b r none)) ≡ t → b ≡ false → plus s c ≡ t
stop-sum s t c r true e g = let z : ◌≡◌ {A = ℕ} 0 1 = cc in absurd (omega arith)
stop-sum s t c r false e g = ap (plus s) (sym (plus_none c)) ∙ e

more-sum : (s t c r : Summary) (b : Bool) → plus s (plus c (cond b r none)) ≡ t → b ≡ true → plus (plus s c) r ≡ t
more-sum s t c r true e g = plus_assoc s c r ∙ e
more-sum s t c r false e g = let z : ◌≡◌ {A = ℕ} 0 1 = cc in absurd (omega arith)

-- the bytes that the first record takes up
abbrev pub taken : List ℕ → ℕ
taken bs = length bs - length (rest_after bs)

rest-by : (bs : List ℕ) (t : Bool) → length (cond t (drop (announced bs) bs) bs) ≤ length bs
rest-by bs true = simp length-drop (omega arith)
rest-by bs false = omega arith

pub rest_le : (bs : List ℕ) → length (rest_after bs) ≤ length bs
rest_le bs = rest-by bs (leb (announced bs) (length bs))

shrinks-by : (bs : List ℕ) (e t : Bool) → leb (announced bs) (length bs) ≡ t → (a : Answer) → goes_on (cond e nothing (cond t a (refusal 16 (length bs)))) ≡ true → length (cond t (drop (announced bs) bs) bs) < length bs
shrinks-by bs e true q a g = let l = leb-true (announced bs) (length bs) q in simp length-drop (omega arith)
shrinks-by bs true false q a g = let z : ◌≡◌ {A = ℕ} 0 1 = cc in absurd (omega arith)
shrinks-by bs false false q a g = let z : ◌≡◌ {A = ℕ} 0 1 = cc in absurd (omega arith)

pub shrinks : (bs : List ℕ) → goes_on (answer_to bs) ≡ true → length (rest_after bs) < length bs
shrinks bs g = shrinks-by bs (eqb (length bs) 0) (leb (announced bs) (length bs)) refl _ g

pub left-start : (bs : List ℕ) → Left none bs (totals_in (length bs) bs)
left-start bs = record { turns = length bs; enough = omega arith; sum = none-plus (totals_in (length bs) bs) }

module _ (s t : Summary) (rest : List ℕ) where
  stop-at : (k : ℕ) → 0 < length rest → length rest ≤ k → plus s (totals_in k rest) ≡ t → goes_on (answer_to rest) ≡ false → plus s (counted (answer_to rest) (taken rest)) ≡ t
  stop-at zero h l e g = absurd (omega arith)
  stop-at (suc k) h l e g =
      stop-sum s t (counted (answer_to rest) (taken rest)) (totals_in k (rest_after rest)) (goes_on (answer_to rest)) e g

  pub left-stop : 0 < length rest → Left s rest t → goes_on (answer_to rest) ≡ false → plus s (counted (answer_to rest) (taken rest)) ≡ t
  left-stop h l g = stop-at l.turns h l.enough l.sum g

  more-at : (k : ℕ) → length rest ≤ k → plus s (totals_in k rest) ≡ t → goes_on (answer_to rest) ≡ true → Left (plus s (counted (answer_to rest) (taken rest))) (rest_after rest) t
  more-at zero l e g = absurd (let n = shrinks rest g in omega arith)
  more-at (suc k) l e g = record {
    turns = k;
    enough = let n = shrinks rest g in omega arith;
    sum = more-sum s t (counted (answer_to rest) (taken rest)) (totals_in k (rest_after rest)) (goes_on (answer_to rest)) e g;
  }

  pub left-more : Left s rest t → goes_on (answer_to rest) ≡ true → Left (plus s (counted (answer_to rest) (taken rest))) (rest_after rest) t
  left-more l g = more-at l.turns l.enough l.sum g

end-at : (k : ℕ) (s t : Summary) → plus s (totals_in k []) ≡ t → s ≡ t
end-at zero s t e = sym (plus_none s) ∙ e
end-at (suc k) s t e = sym (plus_none s) ∙ e

pub left_end : (s t : Summary) (rest : List ℕ) → length rest ≡ 0 → Left s rest t → s ≡ t
left_end s t [] h l = end-at l.turns s t l.sum
left_end s t (b ∷ bs) h l = absurd (omega arith)

counted-one : (a : Answer) (n : ℕ) → (counted a n).records + (counted a n).faults ≤ 1
counted-one (found e) n = omega arith
counted-one nothing n = omega arith
counted-one (faulty t) n = omega arith

counted-bytes : (a : Answer) (n : ℕ) → goes_on a ≡ true → (counted a n).bytes ≡ n
counted-bytes (found e) n g = refl
counted-bytes nothing n g = let z : ◌≡◌ {A = ℕ} 0 1 = cc in absurd (omega arith)
counted-bytes (faulty t) n g = refl

-- what the loop keeps: the totals, and room to count on
abbrev pub Going : Summary → List ℕ → List ℕ → Type 0
Going s rest all =
    Left s rest (totals all) × (s.records + s.faults + length rest ≤ length all) × (s.bytes + length rest ≡ length all)

-- one turn: a reading a of the rest, which leaves the tail
module _ (s n : Summary) (rest tail all : List ℕ) (a : Answer) (read : a ≡ answer_to rest) (left : tail ≡ rest_after rest) (add : n ≡ plus s (counted a (length rest - length tail))) where
  size : length rest - length tail ≡ taken rest
  size = ap (λ (xs : List ℕ). length rest - length xs) left

  next : n ≡ plus s (counted (answer_to rest) (taken rest))
  next = add ∙ (ap (λ (x : Answer). plus s (counted x (length rest - length tail))) read ∙ ap (λ (m : ℕ). plus s (counted (answer_to rest) m)) size)

  goes : (b : Bool) → b ≡ goes_on a → goes_on (answer_to rest) ≡ b
  goes b g = ap goes_on (sym read) ∙ sym g

  pub turn-less : true ≡ goes_on a → length tail < length rest
  turn-less g = subst (λ (xs : List ℕ). length xs < length rest) (sym left) (shrinks rest (goes true g))

  pub turn_more : true ≡ goes_on a → Going s rest all → Going n tail all
  turn_more g (l, few, bytes) =
      let less = turn-less g in
      let m = length rest - length tail in
      let one = counted-one a (length rest - length tail) in
      let taken-bytes = counted-bytes a (length rest - length tail) (sym g) in
      let r = ap (λ (x : Summary). x.records) add in
      let f = ap (λ (x : Summary). x.faults) add in
      let b = ap (λ (x : Summary). x.bytes) add in
      let more = left-more s (totals all) rest l (goes true g) in (
        subst (λ (x : Summary). Left x tail (totals all)) (sym next) (subst (λ (xs : List ℕ). Left (plus s (counted (answer_to rest) (taken rest))) xs (totals all)) (sym left) more),
        omega arith,
        omega arith,
      )

  pub turn-stop : 0 < length rest → false ≡ goes_on a → Going s rest all → n ≡ totals all
  turn-stop h g (l, few, bytes) = next ∙ left-stop s (totals all) rest h l (goes false g)

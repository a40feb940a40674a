-- What is written reads back.
use Rattle.std.proofs.Common.{◌≡◌, ℕ, ◌-◌, ◌*◌, ◌/◌, ◌%◌, ◌^◌, ◌<◌, ◌≤◌, true, ◌&&◌, leb, List, [], ◌∷◌, ◌++◌, map, length, ℤ, sym, refl, ap, ◌∙◌, subst, mul-div_cancel, arith, lit<, w64, SFits, to_z, of_z}
use native.Mathlib.Nat.{mul-mod_left}
use Rattle.std.specs.List.{AllByRecursion}
use Rattle.std.proofs.lemmas.List.{length-map, take_at, drop_at, append-nil, length-append}
use Rattle.std.proofs.Math.Facts.{Fits-of_z}
use Rattle.std.proofs.lemmas.Int.{to_z-of_z}
use Rattle.std.proofs.lemmas.Bool.Decides.{nat_tests}
use Rattle.record.specs.Little.{little, field, numbers, spread}
use Rattle.record.specs.Kinds.{Entry, set_up, opening, stepping, closing, opened, published, closed, refused, ended, kind_of, body_of, bytes_of, row_in, tally_in}
use Rattle.record.specs.Reads.{found, decode, has_few_counts, answer_to, rest_after}
use Rattle.record.specs.Writes.{ReadsBack}
use Rattle.record.proofs.Whole.{answer-whole, rest-whole}
use Rattle.record.proofs.Digits.{value-little, length-spread, numbers-spread}

-- each field fits its width, and there are one to eight counts
abbrev pub Lawful : Entry → Type 0
Lawful (set_up s k p g) = (s < 2 ^ 32) × (k < 2 ^ 16) × (p < 2 ^ 16) × (g < 2 ^ 32)
Lawful (opening t) = t < 2 ^ 16
Lawful (stepping cs) = (1 ≤ length cs) × (length cs ≤ 8) × AllByRecursion (λ n. n < 2 ^ 16) cs
Lawful closing = Unit {0}
Lawful (opened e t h) = (e < 2 ^ 32) × (t < 2 ^ 16) × (h < 2 ^ 32)
Lawful (published e t cs) = (e < 2 ^ 32) × (t < 2 ^ 16) × (1 ≤ length cs) × (length cs ≤ 8) × AllByRecursion (SFits w64) cs
Lawful (closed e t s) = (e < 2 ^ 32) × (t < 2 ^ 16) × (s < 2 ^ 32)
Lawful (refused n l p e) = (n < 2 ^ 16) × (l < 2 ^ 16) × (p < 2 ^ 32) × (e < 2 ^ 32)
Lawful (ended n) = n < 2 ^ 32

few : (n : ℕ) → 1 ≤ n → n ≤ 8 → (leb 1 n && leb n 8) ≡ true
few n a b = grind (arith, nat_tests)

few-spread : (w n m : ℕ) → 0 < w → m ≡ n * w → 1 ≤ n → n ≤ 8 → has_few_counts w m ≡ true
few-spread w n m h e a b =
    let q : n * w / w ≡ n = mul-div_cancel n h in
    let r : n * w % w ≡ 0 = mul-mod_left n w in
    rw (e, r, q) (few n a b)

row-spread : (cs : List ℕ) → AllByRecursion (λ n. n < 2 ^ 16) cs → row_in (spread 2 cs) ≡ cs
row-spread cs h =
    let l = length-spread 2 cs in
    let q : length (spread 2 cs) / 2 ≡ length cs = omega arith in
    rw q (subst (λ (bs : List ℕ). numbers 2 (length cs) bs ≡ cs) (append-nil (spread 2 cs)) (numbers-spread 2 cs [] h))

unsigned : (cs : List ℤ) → AllByRecursion (SFits w64) cs → AllByRecursion (λ n. n < 2 ^ 64) (map (of_z w64) cs) × (map (to_z w64) (map (of_z w64) cs) ≡ cs)
unsigned [] h = (tt, refl)
unsigned (z ∷ cs) (h, hs) =
    let rest = unsigned cs hs in
    (((Fits-of_z h).fits, rest.0), rw (to_z-of_z w64 z h, rest.1))

pub tally-spread : (cs : List ℤ) → AllByRecursion (SFits w64) cs → tally_in (spread 8 (map (of_z w64) cs)) ≡ cs
tally-spread cs h =
    let ns : List ℕ = map (of_z w64) cs in
    let l = length-spread 8 (map (of_z w64) cs) in
    let q : length (spread 8 (map (of_z w64) cs)) / 8 ≡ length (map (of_z w64) cs) = omega arith in
    let u = unsigned cs h in
    let e = subst (λ (bs : List ℕ). numbers 8 (length (map (of_z w64) cs)) bs ≡ map (of_z w64) cs) (append-nil (spread 8 (map (of_z w64) cs))) (numbers-spread 8 (map (of_z w64) cs) [] u.0) in
    rw (q, e) u.1

decode-body : (e : Entry) → Lawful e → decode (kind_of e) (body_of e) ≡ found e
decode-body (set_up s k p g) (a, b, c, d) =
    rw (value-little 4 s a, value-little 2 k b, value-little 2 p c, value-little 4 g d)
decode-body (opening t) a = ap (λ n. found (opening n)) (value-little 2 t a)
decode-body (stepping cs) (a, b, c) =
    rw (few-spread 2 (length cs) (length (spread 2 cs)) (omega arith) (length-spread 2 cs) a b, row-spread cs c)
decode-body closing a = refl
decode-body (opened e t h) (a, b, c) = rw (value-little 4 e a, value-little 2 t b, value-little 4 h c)
decode-body (published e t cs) (a, b, c, d, f) =
    let l = length-spread 8 (map (of_z w64) cs) in
    let m = length-map cs (of_z w64) in
    let n : length (body_of (published e t cs)) - 6 ≡ length cs * 8 = omega arith in
    let g : leb 6 (length (body_of (published e t cs))) ≡ true = grind (arith, nat_tests) in
    rw (g, few-spread 8 (length cs) (length (body_of (published e t cs)) - 6) (omega arith) n c d, value-little 4 e a, value-little 2 t b, tally-spread cs f)
decode-body (closed e t s) (a, b, c) = rw (value-little 4 e a, value-little 2 t b, value-little 4 s c)
decode-body (refused n l p e) (a, b, c, d) =
    rw (value-little 2 n a, value-little 2 l b, value-little 4 p c, value-little 4 e d)
decode-body (ended n) a = ap (λ n. found (ended n)) (value-little 4 n a)

-- a header and a body, whatever follows
module _ (k : ℕ) (b tail : List ℕ) (h : k < 2 ^ 16) (l : length b < 2 ^ 16) where
  abbrev framed : List ℕ
  framed = (little 2 (length b) ++ little 2 k ++ b) ++ tail

  long : 4 ≤ length framed
  long = omega arith

  length-field : length b ≡ field 0 2 framed
  length-field = sym (value-little 2 (length b) l)

  kind-field : k ≡ field 2 2 framed
  kind-field = sym (value-little 2 k h)

  inside : length b ≤ length framed - 4
  inside = let e = length-append b tail in omega arith

  pub answer-frame : answer_to framed ≡ decode k b
  answer-frame =
      answer-whole framed (length b) k long length-field kind-field inside ∙ ap (decode k) (take_at b tail (length b) refl)

  pub rest-frame : rest_after framed ≡ tail
  rest-frame = rest-whole framed (length b) k long length-field kind-field inside ∙ drop_at b tail (length b) refl

kind-lt : (e : Entry) → kind_of e < 2 ^ 16
kind-lt (set_up s k p g) = lit< tt
kind-lt (opening t) = lit< tt
kind-lt (stepping cs) = lit< tt
kind-lt closing = lit< tt
kind-lt (opened e t h) = lit< tt
kind-lt (published e t cs) = lit< tt
kind-lt (closed e t s) = lit< tt
kind-lt (refused n l p e) = lit< tt
kind-lt (ended n) = lit< tt

body-lt : (e : Entry) → Lawful e → length (body_of e) < 2 ^ 16
body-lt (set_up s k p g) h = lit< tt
body-lt (opening t) h = lit< tt
body-lt (stepping cs) (a, b, c) = let l = length-spread 2 cs in omega arith
body-lt closing h = lit< tt
body-lt (opened e t h) a = lit< tt
body-lt (published e t cs) (a, b, c, d, f) =
    let l = length-spread 8 (map (of_z w64) cs) in let m = length-map cs (of_z w64) in omega arith
body-lt (closed e t s) h = lit< tt
body-lt (refused n l p e) h = lit< tt
body-lt (ended n) h = lit< tt

pub reads-back : (e : Entry) → Lawful e → ReadsBack (bytes_of e) e
reads-back e h tail = (
  answer-frame (kind_of e) (body_of e) tail (kind-lt e) (body-lt e h) ∙ decode-body e h,
  rest-frame (kind_of e) (body_of e) tail (kind-lt e) (body-lt e h),
)

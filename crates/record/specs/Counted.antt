-- The counts in some bytes: how many, the first, and the bytes that they take up.
use Rattle.std.specs.Prelude.{◌≡◌, ℕ, zero, suc, ◌+◌, ◌*◌, ◌/◌, ◌%◌, ◌^◌, ◌<◌, ◌≤◌, List, [], ◌∷◌, length, take, drop, map, refl}
use Rattle.std.proofs.Common.{ap, ◌∙◌, subst, suc-mul, zero-mul, take-add, arith, w64, to_z, of_z}
use native.Mathlib.Nat.{pow-succ'}
use mir.ValLaws.{of_z-to_z}
use Rattle.std.specs.List.{AllByRecursion}
use Rattle.std.proofs.ByRecursion.{All-take, All-drop}
use Rattle.std.proofs.lemmas.List.{length-take, length-drop, length-map}
use Rattle.record.specs.Little.{value, little, field, numbers, spread}
use Rattle.record.specs.Kinds.{row_in, tally_in}

pub length-numbers : (w k : ℕ) (bs : List ℕ) → length (numbers w k bs) ≡ k
length-numbers w zero bs = refl
length-numbers w (suc k) bs = ap suc (length-numbers w k (drop w bs))

pub length-row : (bs : List ℕ) → length (row_in bs) ≡ length bs / 2
length-row bs = length-numbers 2 (length bs / 2) bs

pub length-tally : (bs : List ℕ) → length (tally_in bs) ≡ length bs / 8
length-tally bs = length-map (numbers 8 (length bs / 8) bs) (to_z w64) ∙ length-numbers 8 (length bs / 8) bs

module _ (bs : List ℕ) where
  -- the first count, and those behind it
  numbers-first : (w : ℕ) → length bs / w ≡ suc (length (drop w bs) / w) → numbers w (length bs / w) bs ≡ field 0 w bs ∷ numbers w (length (drop w bs) / w) (drop w bs)
  numbers-first w e = rw e

  pub first-of-row : 0 < length (row_in bs) → row_in bs ≡ field 0 2 bs ∷ row_in (drop 2 bs)
  first-of-row h = numbers-first 2 (omega (arith, length-row bs, length-drop 2 bs))

  pub first-of-tally : 0 < length (tally_in bs) → tally_in bs ≡ to_z w64 (field 0 8 bs) ∷ tally_in (drop 8 bs)
  first-of-tally h = ap (map (to_z w64)) (numbers-first 8 (omega (arith, length-tally bs, length-drop 8 bs)))

abbrev pub Bytes : List ℕ → Type 0
Bytes bs = AllByRecursion (λ b. b < 256) bs

little-value : (bs : List ℕ) → Bytes bs → little (length bs) (value bs) ≡ bs
little-value [] h = refl
little-value (b ∷ bs) (h, hs) =
    let low : (b + 256 * value bs) % 256 ≡ b = omega arith in
    let high : (b + 256 * value bs) / 256 ≡ value bs = omega arith in
    rw (low, high, little-value bs hs)

value-lt : (bs : List ℕ) → Bytes bs → value bs < 256 ^ length bs
value-lt [] h = omega arith
value-lt (b ∷ bs) (h, hs) =
    let e = value-lt bs hs in
    let p = pow-succ' 256 (length bs) in
    omega arith

-- a field's bytes, from its number
pub little-field : (i w : ℕ) (bs : List ℕ) → i + w ≤ length bs → Bytes bs → little w (field i w bs) ≡ take w (drop i bs)
little-field i w bs h all =
    let xs : List ℕ = take w (drop i bs) in
    let n : length (take w (drop i bs)) ≡ w = simp (length-take, length-drop) (omega arith) in
    let e = little-value (take w (drop i bs)) (All-take (λ b. b < 256) w (drop i bs) (All-drop (λ b. b < 256) i bs all)) in
    subst (λ (k : ℕ). little k (value (take w (drop i bs))) ≡ take w (drop i bs)) n e

spread-numbers : (w k : ℕ) (bs : List ℕ) → k * w ≤ length bs → Bytes bs → spread w (numbers w k bs) ≡ take (k * w) bs
spread-numbers w zero bs h all = rw zero-mul
spread-numbers w (suc k) bs h all =
    let m = suc-mul k w in
    let e = spread-numbers w k (drop w bs) (simp length-drop (omega arith)) (All-drop (λ b. b < 256) w bs all) in
    let f = little-field 0 w bs (omega arith) all in
    rw (f, e, ← take-add w (k * w) bs) (ap (λ (n : ℕ). take n bs) (omega arith))

pub numbers-lt : (w k : ℕ) (bs : List ℕ) → k * w ≤ length bs → Bytes bs → AllByRecursion (λ n. n < 256 ^ w) (numbers w k bs)
numbers-lt w zero bs h all = tt
numbers-lt w (suc k) bs h all =
    let m = suc-mul k w in
    let l : length (take w bs) ≡ w = simp length-take (omega arith) in
    let v = value-lt (take w bs) (All-take (λ b. b < 256) w bs all) in
    (subst (λ (n : ℕ). value (take w bs) < 256 ^ n) l v, numbers-lt w k (drop w bs) (simp length-drop (omega arith)) (All-drop (λ b. b < 256) w bs all))

signed : (ns : List ℕ) → AllByRecursion (λ n. n < 2 ^ 64) ns → map (of_z w64) (map (to_z w64) ns) ≡ ns
signed [] h = refl
signed (n ∷ ns) (h, hs) = rw (of_z-to_z w64 n (record { fits = h }), signed ns hs)

module _ (bs : List ℕ) (all : Bytes bs) where
  -- whole counts are written as the bytes that they stand in
  pub row-bytes : spread 2 (row_in bs) ≡ take (length bs / 2 * 2) bs
  row-bytes = spread-numbers 2 (length bs / 2) bs (omega arith) all

  pub tally-bits : AllByRecursion (λ n. n < 2 ^ 64) (numbers 8 (length bs / 8) bs)
  tally-bits = numbers-lt 8 (length bs / 8) bs (omega arith) all

  pub tally-bytes : spread 8 (map (of_z w64) (tally_in bs)) ≡ take (length bs / 8 * 8) bs
  tally-bytes = ap (spread 8) (signed (numbers 8 (length bs / 8) bs) tally-bits) ∙ spread-numbers 8 (length bs / 8) bs (omega arith) all

-- Counts in bytes, one after the other.
use Rattle.std.proofs.Common.{◌≡◌, ℕ, ◌+◌, ◌/◌, ◌%◌, List, [], ◌∷◌, ◌++◌, map, length, ℤ, flat_map, refl, sym, ap, ◌∙◌, subst, arith, w64, SFits, of_z}
use Rattle.std.proofs.lemmas.List.FromFn.{length-map-range_with_len, map-range_with_len_more}
use Rattle.std.proofs.ByRecursion.{All-push}
use Rattle.std.specs.List.{range_with_len, AllByRecursion}
use Rattle.record.specs.Little.{little, spread}
use Rattle.record.specs.Kinds.{tally_in}
use Rattle.record.proofs.ReadBack.{tally-spread}

-- the eight bytes of a number
pub little-eight : (n : ℕ) → n % 256 ∷ n / 256 % 256 ∷ n / 65536 % 256 ∷ n / 16777216 % 256 ∷ n / 4294967296 % 256 ∷ n / 1099511627776 % 256 ∷ n / 281474976710656 % 256 ∷ n / 72057594037927936 % 256 ∷ [] ≡ little 8 n
little-eight n =
    let a : n / 65536 ≡ n / 256 / 256 = omega arith in
    let b : n / 16777216 ≡ n / 256 / 256 / 256 = omega arith in
    let c : n / 4294967296 ≡ n / 256 / 256 / 256 / 256 = omega arith in
    let d : n / 1099511627776 ≡ n / 256 / 256 / 256 / 256 / 256 = omega arith in
    let e : n / 281474976710656 ≡ n / 256 / 256 / 256 / 256 / 256 / 256 = omega arith in
    let f : n / 72057594037927936 ≡ n / 256 / 256 / 256 / 256 / 256 / 256 / 256 = omega arith in
    cc

-- the bytes of the counts of the first classes
abbrev pub Stored : (ℕ → ℤ) → ℕ → List (List ℕ) → Type 0
Stored count classes parts =
    (parts ≡ map (λ class. little 8 (of_z w64 (count class))) (range_with_len 0 classes))
    × AllByRecursion (SFits w64) (map count (range_with_len 0 classes))

pub stored-long : (count : ℕ → ℤ) (classes : ℕ) (parts : List (List ℕ)) → Stored count classes parts → length parts ≡ classes
stored-long count classes parts (is, _) = ap length is ∙ length-map-range_with_len (λ class. little 8 (of_z w64 (count class))) 0 classes

pub stored_more : (count : ℕ → ℤ) (class : ℕ) (parts after : List (List ℕ)) (z : ℤ) → SFits w64 z → z ≡ count class
    → Stored count class parts → after ≡ parts ++ little 8 (of_z w64 z) ∷ [] → Stored count (class + 1) after
stored_more count class parts after z fits is (front, all) e =
    let more : map count (range_with_len 0 (class + 1)) ≡ map count (range_with_len 0 class) ++ z ∷ [] = map-range_with_len_more count 0 class class (omega arith) ∙ ap (λ (x : ℤ). map count (range_with_len 0 class) ++ x ∷ []) (sym is) in (
      e
          ∙ ap (λ (xs : List (List ℕ)). xs ++ little 8 (of_z w64 z) ∷ []) front
          ∙ ap (λ (n : ℤ). map (λ class. little 8 (of_z w64 (count class))) (range_with_len 0 class) ++ little 8 (of_z w64 n) ∷ []) is
          ∙ sym (map-range_with_len_more (λ class. little 8 (of_z w64 (count class))) 0 class class (omega arith)),
      subst (AllByRecursion (SFits w64)) (sym more) (All-push (SFits w64) (map count (range_with_len 0 class)) z all fits),
    )

flat-spread : (count : ℕ → ℤ) (ns : List ℕ) → flat_map (λ x. x) (map (λ n. little 8 (of_z w64 (count n))) ns) ≡ spread 8 (map (of_z w64) (map count ns))
flat-spread count [] = refl
flat-spread count (n ∷ ns) = ap (λ (xs : List ℕ). little 8 (of_z w64 (count n)) ++ xs) (flat-spread count ns)

pub stored-all : (count : ℕ → ℤ) (classes : ℕ) (parts : List (List ℕ)) → Stored count classes parts → tally_in (flat_map (λ x. x) parts) ≡ map count (range_with_len 0 classes)
stored-all count classes parts (front, all) =
    ap (λ (xs : List (List ℕ)). tally_in (flat_map (λ x. x) xs)) front
    ∙ ap tally_in (flat-spread count (range_with_len 0 classes))
    ∙ tally-spread (map count (range_with_len 0 classes)) all

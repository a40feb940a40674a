-- The counts of some bytes, as the first of them and those behind it come.
use Rattle.std.proofs.Common.{◌≡◌, ℕ, zero, suc, ◌*◌, ◌<◌, List, ◌∷◌, length, drop, Option, Some, sym, ap, ◌∙◌, add_comm, mul-zero, mul-suc, arith}
use Rattle.std.specs.List.{slice_get}
use Rattle.std.proofs.lemmas.List.{drop-drop}
use Rattle.std.proofs.lemmas.Option.{slice_get_within}
use Rattle.record.specs.Little.{field}

module _ {X : Type 0} (w : ℕ) (of_bits : ℕ → X) (counts_in : List ℕ → List X) (first : (bs : List ℕ) → 0 < length (counts_in bs) → counts_in bs ≡ of_bits (field 0 w bs) ∷ counts_in (drop w bs)) where
  pub nth-count : (bs : List ℕ) (i : ℕ) → i < length (counts_in bs) → slice_get (counts_in bs) i ≡ Some (of_bits (field (w * i) w bs))
  nth-count bs zero h =
      ap (λ (xs : List X). slice_get xs 0) (first bs h) ∙ ap (λ (k : ℕ). Some (of_bits (field k w bs))) (sym (mul-zero w))
  nth-count bs (suc i) h =
      let split = first bs (omega arith) in
      let behind : i < length (counts_in (drop w bs)) = omega (arith, ap length split) in
      ap (λ (xs : List X). slice_get xs (suc i)) split ∙ (nth-count (drop w bs) i behind ∙ rw (drop-drop (w * i) w bs, mul-suc w i, add_comm (w * i) w))

pub first-got : {X : Type 0} (xs ys zs : List X) (x y : X) {r : Option X} → r ≡ slice_get xs 0 → r ≡ Some y → zs ≡ ys → (0 < length xs → xs ≡ x ∷ ys) → xs ≡ y ∷ zs
first-got xs ys zs x y p q e h =
    let got : slice_get xs 0 ≡ Some y = sym p ∙ q in
    let split = h (slice_get_within xs 0 y got) in
    let some : slice_get (x ∷ ys) 0 ≡ Some y = ap (λ (l : List _). slice_get l 0) (sym split) ∙ got in
    cc

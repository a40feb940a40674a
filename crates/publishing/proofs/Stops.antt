-- The event bytes after the next event record.
use Rattle.std.proofs.Common.{◌≡◌, ℕ, ◌<◌, Bool, true, false, cond, ltb, leb, List, [], length, drop, refl, ap, arith}
use Rattle.std.proofs.lemmas.List.{length-drop}
use Rattle.record.specs.Reads.{announced, rest_after}
use Rattle.publishing.specs.Whole.{least_room, rest_in}

module _ (bs : List ℕ) (left : ℕ) where
  abbrev left_over : Bool → Bool → List ℕ
  left_over short whole = cond short [] (cond whole (rest_after bs) [])

  shorter-by : (short whole : Bool) → leb (announced bs) (length bs) ≡ whole → 0 < length bs → length (left_over short whole) < length bs
  shorter-by true whole e h = h
  shorter-by false false e h = h
  shorter-by false true e h =
      let l = length-drop (announced bs) bs in
      let r : length (rest_after bs) ≡ length (drop (announced bs) bs) = ap (λ (b : Bool). length (cond b (drop (announced bs) bs) bs)) e in
      omega arith

  -- fewer bytes are left over
  pub rest-shorter : 0 < length bs → length (rest_in left bs) < length bs
  rest-shorter h = shorter-by (ltb left least_room) (leb (announced bs) (length bs)) refl h

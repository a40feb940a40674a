-- A record that is there whole.
use Rattle.std.proofs.Common.{◌≡◌, ℕ, ◌-◌, ◌≤◌, true, false, eqb, leb, List, length, take, drop, arith}
use native.Mathlib.Nat.{sub-zero}
use Rattle.std.proofs.lemmas.List.{drop-drop, take_rest}
use Rattle.std.proofs.lemmas.Bool.Decides.{nat_tests}
use Rattle.record.specs.Little.{field}
use Rattle.record.specs.Reads.{decode, announced, answer_to, body_in, rest_after}

module _ (bs : List ℕ) (n k : ℕ) (h : 4 ≤ length bs) (e : n ≡ field 0 2 bs) (f : k ≡ field 2 2 bs) (l : n ≤ length bs - 4) where
  some : eqb (length bs) 0 ≡ false
  some = grind (arith, nat_tests)

  whole : leb (announced bs) (length bs) ≡ true
  whole = grind (arith, nat_tests)

  pub answer-whole : answer_to bs ≡ decode k (take n (drop 4 bs))
  answer-whole = rw (some, whole, ← f, ← e)

  pub rest-whole : rest_after bs ≡ drop n (drop 4 bs)
  rest-whole = rw (whole, ← e, drop-drop)

  -- the same, as body and rest are cut off the bytes behind the header
  pub answer-cut : answer_to bs ≡ decode k (take (n - 0) (take (length bs - 4) (drop 4 bs)))
  answer-cut = rw (take_rest, sub-zero) answer-whole

  pub rest-cut : rest_after bs ≡ take (length (take (length bs - 4) (drop 4 bs)) - n) (drop n (take (length bs - 4) (drop 4 bs)))
  rest-cut = rw (take_rest bs 4, take_rest) rest-whole

  pub body-cut : take (n - 0) (take (length bs - 4) (drop 4 bs)) ≡ body_in bs
  body-cut = rw (take_rest, sub-zero, e)

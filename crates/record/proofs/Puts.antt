-- One store after another.
use Rattle.std.proofs.Common.{◌≡◌, ℕ, ◌+◌, List, ◌++◌, length, take, drop, sym, ◌∙◌, subst, zero-add}
use borrow.Rule.Slice.PartMut.{put_mid}
use Rattle.std.proofs.lemmas.List.{take_at, drop-drop, length-append, append_assoc, drop_at}
use Rattle.record.specs.Little.{little}
use Rattle.record.specs.Writes.{put}

-- a copy into `out[at..at + n]`
pub put-part : (at k : ℕ) (xs ys zs : List ℕ) → zs ≡ ys → k ≡ length ys → put_mid at k xs zs ≡ put at ys xs
put-part at k xs ys zs e n = rw (e, n, append_assoc (take at xs) ys (drop (at + length ys) xs), ← drop-drop (length ys) at xs)

-- bytes stored right behind those that stand at the start
pub put-more : (ys zs xs was now : List ℕ) (at : ℕ) → length ys ≡ at → was ≡ put 0 ys xs → now ≡ put at zs was → now ≡ put 0 (ys ++ zs) xs
put-more ys zs xs was now at l p q =
    let start : was ≡ ys ++ drop (length ys) xs = p ∙ rw zero-add in
    let front : take at was ≡ ys = rw start (take_at ys (drop (length ys) xs) at l) in
    let back : drop (at + length zs) was ≡ drop (0 + length (ys ++ zs)) xs =
    sym (drop-drop (length zs) at was) ∙ rw (start, drop_at ys (drop (length ys) xs) at l, drop-drop, length-append, zero-add) in
    q ∙ rw (front, back)

-- bytes that stand at the start, and those behind them as they were
pub record Begun (ys old new : List ℕ) : Type 0 where
  pub is : new ≡ put 0 ys old

pub begun : {ys old new : List ℕ} → new ≡ put 0 ys old → Begun ys old new
begun p = record { is = p }

pub more : {ys old was now : List ℕ} (at : ℕ) (zs : List ℕ) → Begun ys old was → now ≡ put at zs was → length ys ≡ at → Begun (ys ++ zs) old now
more {ys} {old} {was} {now} at zs b q l = record { is = put-more ys zs old was now at l b.is q }

-- a header and a body that is another's
pub framed : {old new : List ℕ} (k n : ℕ) (a b : List ℕ) → a ≡ b → n ≡ length b → Begun (little 2 n ++ little 2 k ++ a) old new → Begun (little 2 (length b) ++ little 2 k ++ b) old new
framed {old} {new} k n a b p q begun =
    subst (λ (z : List ℕ). Begun (little 2 (length b) ++ little 2 k ++ z) old new) p (subst (λ (z : ℕ). Begun (little 2 z ++ little 2 k ++ a) old new) q begun)

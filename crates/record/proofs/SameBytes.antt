-- What the reader accepts is written as the same bytes.
use Rattle.std.proofs.Common.{◌≡◌, ℕ, ◌+◌, ◌-◌, ◌*◌, ◌/◌, ◌%◌, ◌<◌, ◌≤◌, Bool, true, false, cond, ◌&&◌, eqb, leb, List, [], ◌++◌, map, length, take, drop, sym, refl, ap, ◌∙◌, subst, mul_comm, arith, take-add, w64, of_z, eqb-true, leb-true}
use native.Mathlib.Nat.{div-add-mod}
use Rattle.std.proofs.ByRecursion.{All-take, All-drop}
use Rattle.std.proofs.lemmas.List.{take_all, length-take, length-drop, take-append-drop, nil_from_length}
use Rattle.std.proofs.lemmas.Bool.{and_parts, cond_both}
use Rattle.record.specs.Little.{little, field, spread}
use Rattle.record.specs.Kinds.{Entry, kind_of, body_of, bytes_of, tally_in}
use Rattle.record.specs.Reads.{Answer, found, decode, suited, has_few_counts, answer_to, rest_after, announced}
use Rattle.record.specs.Counted.{Bytes, little-field, row-bytes, tally-bytes}

by-test : (c : Bool) (x y a : Answer) (P : Type 0) → (c ≡ true → x ≡ a → P) → (c ≡ false → y ≡ a → P) → cond c x y ≡ a → P
by-test c x y a P = cond_both c x y (λ r. r ≡ a → P)

suited-found : (f : Bool) (b : List ℕ) (x e : Entry) → suited f b x ≡ found e → (f ≡ true) × (x ≡ e)
suited-found true b x e q = (refl, cc)
suited-found false b x e q = cc

abbrev Same : ℕ → List ℕ → Entry → Type 0
Same k b e = (kind_of e ≡ k) × (body_of e ≡ b)

both : {a b c d : List ℕ} → a ≡ b → c ≡ d → a ++ c ≡ b ++ d
both p q = cc

-- one kind: its body, where the length suits it
one-kind : (n k : ℕ) (f : Bool) (b : List ℕ) (x e : Entry) → eqb k n ≡ true → kind_of x ≡ n → (f ≡ true → body_of x ≡ b) → suited f b x ≡ found e → Same k b e
one-kind n k f b x e t kind body q =
    let s = suited-found f b x e q in
    let i = eqb-true k n t in
    subst (Same k b) s.1 (kind ∙ sym i, body s.0)

module _ (b : List ℕ) (all : Bytes b) where
  part : (i w : ℕ) → i + w ≤ length b → little w (field i w b) ≡ take w (drop i b)
  part i w h = little-field i w b h all

  -- one number more
  more : {xs : List ℕ} (i w : ℕ) → i + w ≤ length b → xs ≡ take i b → xs ++ little w (field i w b) ≡ take (i + w) b
  more i w h p = rw (p, part i w h, take-add i w b)

  body-4224 : eqb (length b) 12 ≡ true → little 4 (field 0 4 b) ++ little 2 (field 4 2 b) ++ little 2 (field 6 2 b) ++ little 4 (field 8 4 b) ≡ b
  body-4224 h =
      let l = eqb-true (length b) 12 h in
      more 8 4 (omega arith) (more 6 2 (omega arith) (more 4 2 (omega arith) (part 0 4 (omega arith)))) ∙ take_all 12 b (omega arith)

  body-2244 : eqb (length b) 12 ≡ true → little 2 (field 0 2 b) ++ little 2 (field 2 2 b) ++ little 4 (field 4 4 b) ++ little 4 (field 8 4 b) ≡ b
  body-2244 h =
      let l = eqb-true (length b) 12 h in
      more 8 4 (omega arith) (more 4 4 (omega arith) (more 2 2 (omega arith) (part 0 2 (omega arith)))) ∙ take_all 12 b (omega arith)

  body-424 : eqb (length b) 10 ≡ true → little 4 (field 0 4 b) ++ little 2 (field 4 2 b) ++ little 4 (field 6 4 b) ≡ b
  body-424 h =
      let l = eqb-true (length b) 10 h in
      more 6 4 (omega arith) (more 4 2 (omega arith) (part 0 4 (omega arith))) ∙ take_all 10 b (omega arith)

  body-one : (w : ℕ) → eqb (length b) w ≡ true → little w (field 0 w b) ≡ b
  body-one w h =
      let l = eqb-true (length b) w h in
      part 0 w (omega arith) ∙ take_all w b (omega arith)

  body-none : eqb (length b) 0 ≡ true → [] ≡ b
  body-none h = sym (nil_from_length b (eqb-true (length b) 0 h))

-- bytes that are whole counts
all-whole : (w : ℕ) (b : List ℕ) → 0 < w → has_few_counts w (length b) ≡ true → take (length b / w * w) b ≡ b
all-whole w b p h =
    let z = eqb-true (length b % w) 0 (and_parts (eqb (length b % w) 0) (leb 1 (length b / w) && leb (length b / w) 8) h).0 in
    let m = div-add-mod (length b) w in
    let l : length b / w * w ≡ length b = omega (arith, mul_comm (length b / w) w) in
    ap (λ (n : ℕ). take n b) l ∙ take_all (length b) b (omega arith)

module _ (b : List ℕ) (all : Bytes b) where
  body-tally : (leb 6 (length b) && has_few_counts 8 (length b - 6)) ≡ true → little 4 (field 0 4 b) ++ little 2 (field 4 2 b) ++ spread 8 (map (of_z w64) (tally_in (drop 6 b))) ≡ b
  body-tally h =
      let parts = and_parts (leb 6 (length b)) (has_few_counts 8 (length b - 6)) h in
      let l = leb-true 6 (length b) parts.0 in
      let n = length-drop 6 b in
      let g : has_few_counts 8 (length (drop 6 b)) ≡ true = rw n parts.1 in
      let counts = tally-bytes (drop 6 b) (All-drop (λ x. x < 256) 6 b all) ∙ all-whole 8 (drop 6 b) (omega arith) g in
      both (both (part b all 0 4 (omega arith)) (part b all 4 2 (omega arith))) counts ∙
      rw (← take-add 4 2 b) (take-append-drop 6 b)

  decoded : (k : ℕ) (e : Entry) → decode k b ≡ found e → Same k b e
  decoded k e =
      by-test (eqb k 1) _ _ _ _ (λ t. one-kind 1 k _ b _ e t refl (body-4224 b all))
      (λ _. by-test (eqb k 2) _ _ _ _ (λ t. one-kind 2 k _ b _ e t refl (body-one b all 2))
      (λ _. by-test (eqb k 3) _ _ _ _ (λ t. one-kind 3 k _ b _ e t refl (λ h. row-bytes b all ∙ all-whole 2 b (omega arith) h))
      (λ _. by-test (eqb k 4) _ _ _ _ (λ t. one-kind 4 k _ b _ e t refl (body-none b all))
      (λ _. by-test (eqb k 33) _ _ _ _ (λ t. one-kind 33 k _ b _ e t refl (body-424 b all))
      (λ _. by-test (eqb k 34) _ _ _ _ (λ t. one-kind 34 k _ b _ e t refl body-tally)
      (λ _. by-test (eqb k 35) _ _ _ _ (λ t. one-kind 35 k _ b _ e t refl (body-424 b all))
      (λ _. by-test (eqb k 36) _ _ _ _ (λ t. one-kind 36 k _ b _ e t refl (body-2244 b all))
      (λ _. by-test (eqb k 37) _ _ _ _ (λ t. one-kind 37 k _ b _ e t refl (body-one b all 4))
      (λ _ q. cc)))))))))

module _ (bs : List ℕ) (all : Bytes bs) (e : Entry) where
  whole : leb (announced bs) (length bs) ≡ true → decode (field 2 2 bs) (take (field 0 2 bs) (drop 4 bs)) ≡ found e → bytes_of e ++ rest_after bs ≡ bs
  whole t q =
      let n = field 0 2 bs in
      let l = leb-true (announced bs) (length bs) t in
      let d = decoded (take n (drop 4 bs)) (All-take (λ b. b < 256) n (drop 4 bs) (All-drop (λ b. b < 256) 4 bs all)) (field 2 2 bs) e q in
      let m : length (take (field 0 2 bs) (drop 4 bs)) ≡ field 0 2 bs = simp (length-take, length-drop) (omega arith) in
      let size = ap (little 2) (ap length d.1 ∙ m) ∙ part bs all 0 2 (omega arith) in
      let kind = ap (little 2) d.0 ∙ part bs all 2 2 (omega arith) in
      let rest : rest_after bs ≡ drop (4 + field 0 2 bs) bs = rw t in
      both (both (both size kind) d.1) rest ∙
      rw (← take-add 2 2 bs, ← take-add 4 (field 0 2 bs) bs) (take-append-drop (4 + field 0 2 bs) bs)

  pub same_bytes : answer_to bs ≡ found e → bytes_of e ++ rest_after bs ≡ bs
  same_bytes =
      by-test (eqb (length bs) 0) _ _ _ _ (λ _ q. cc)
      (λ _. by-test (leb (announced bs) (length bs)) _ _ _ _ whole (λ _ q. cc))

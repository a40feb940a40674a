-- Two rows of classes side by side: what links them before a row links them after it, and their releases are equal.
use Rattle.std.proofs.Common.{◌≡◌, ℕ, zero, suc, ◌+◌, ◌<◌, ◌≤◌, cond, ◌&&◌, eqb, leb, List, [], ◌∷◌, ◌++◌, map, length, get_or, take, drop, ℤ, pos, ◌+ℤ◌, ◌-ℤ◌, Some, None, Option, sym, refl, ap, ◌∙◌, subst, ⊎_elim, arith, w64, SFits}
use Rattle.std.specs.List.{range_with_len, AllByRecursion}
use Rattle.std.proofs.lemmas.List.{length_push}
use Rattle.std.proofs.lemmas.Int.{ints}
use Rattle.finisher.specs.Finishers.{Call, begins, finishes, after, Says, Alike, LawfulCall, class_limit}
use Rattle.runs.specs.Model.{Lane, noise_after, advance, all_advanced, release, all_published, answers_to, says_after}
use Rattle.runs.proofs.Lanes.{AllFrom}
use Rattle.runs.specs.Runs.{Change, moved_by}
use Rattle.runs.proofs.Facts.{le-or-gt}
use Rattle.runs.proofs.Noise.{noise-old, noise-new}

-- by how much the second station's true count is above the first's
abbrev pub count_shift : Option Change → ℕ → ℤ
count_shift None class = pos 0
count_shift (Some c) class = cond (eqb class c.class) c.by (pos 0)

-- by how much its noise at a step is below
abbrev pub noise_shift : Option Change → ℕ → ℕ → ℤ
noise_shift None class i = pos 0
noise_shift (Some c) class i = cond (eqb class c.class && leb c.step i) c.by (pos 0)

pub record LaneLinked (change : Option Change) (class : ℕ) (a b : Lane) : Type 0 where
  pub published : a.published ≡ b.published
  pub long : length a.noise ≡ length b.noise
  pub count : pos b.count ≡ pos a.count +ℤ count_shift change class
  pub noise : (i : ℕ) → i ≤ length a.noise → noise_after b.noise i ≡ noise_after a.noise i -ℤ noise_shift change class i

-- facts of two lists, element by element
abbrev pub Paired : {X : Type 0} → (ℕ → X → X → Type 0) → ℕ → List X → List X → Type 0
Paired P class [] [] = Unit {0}
Paired P class (x ∷ xs) [] = ⊥
Paired P class [] (y ∷ ys) = ⊥
Paired P class (x ∷ xs) (y ∷ ys) = P class x y × Paired P (suc class) xs ys

pub paired-from : {X : Type 0} (P : ℕ → X → X → Type 0) (d : X) (class : ℕ) (xs ys : List X) → length xs ≡ length ys → ((i : ℕ) → i < length xs → P (class + i) (get_or xs i d) (get_or ys i d)) → Paired P class xs ys
paired-from P d class [] [] h f = tt
paired-from P d class (x ∷ xs) [] h f = absurd (omega arith)
paired-from P d class [] (y ∷ ys) h f = absurd (omega arith)
paired-from P d class (x ∷ xs) (y ∷ ys) h f = (
  subst (λ (k : ℕ). P k x y) (omega arith) (f 0 (omega arith)),
  paired-from P d (suc class) xs ys (omega arith) (λ i k. subst (λ (m : ℕ). P m (get_or xs i d) (get_or ys i d)) (omega arith) (f (suc i) (omega arith))),
)

pub paired_at : {X : Type 0} (P : ℕ → X → X → Type 0) (d : X) (class : ℕ) (xs ys : List X) (i : ℕ) → i < length xs → Paired P class xs ys → P (class + i) (get_or xs i d) (get_or ys i d)
paired_at P d class [] ys i h q = absurd (omega arith)
paired_at P d class (x ∷ xs) [] i h q = absurd q
paired_at P d class (x ∷ xs) (y ∷ ys) zero h q = subst (λ (k : ℕ). P k x y) (omega arith) q.0
paired_at P d class (x ∷ xs) (y ∷ ys) (suc i) h q =
    subst (λ (k : ℕ). P k (get_or xs i d) (get_or ys i d)) (omega arith) (paired_at P d (suc class) xs ys i (omega arith) q.1)

pub paired-length : {X : Type 0} (P : ℕ → X → X → Type 0) (class : ℕ) (xs ys : List X) → Paired P class xs ys → length xs ≡ length ys
paired-length P class [] [] q = refl
paired-length P class (x ∷ xs) [] q = absurd q
paired-length P class [] (y ∷ ys) q = absurd q
paired-length P class (x ∷ xs) (y ∷ ys) q = ap suc (paired-length P (suc class) xs ys q.1)

pub paired-weaker : {X : Type 0} (P Q : ℕ → X → X → Type 0) → ((class : ℕ) (x y : X) → P class x y → Q class x y) → (class : ℕ) (xs ys : List X) → Paired P class xs ys → Paired Q class xs ys
paired-weaker P Q f class [] [] q = tt
paired-weaker P Q f class (x ∷ xs) [] q = q
paired-weaker P Q f class [] (y ∷ ys) q = q
paired-weaker P Q f class (x ∷ xs) (y ∷ ys) q = (f class x y q.0, paired-weaker P Q f (suc class) xs ys q.1)

-- the cells of one row, moved by their shifts, and the tape behind them
pub moved_row : (f : ℕ → ℤ) (n class : ℕ) (cells rest : List ℤ) → n ≤ length cells → Paired (λ c x y. y ≡ x -ℤ f c) class (take n cells) (take n (moved_by cells (map f (range_with_len class n) ++ rest))) × (drop n (moved_by cells (map f (range_with_len class n) ++ rest)) ≡ moved_by (drop n cells) rest)
moved_row f zero class cells rest h = (tt, refl)
moved_row f (suc n) class [] rest h = absurd (omega arith)
moved_row f (suc n) class (c ∷ cells) rest h =
    let r = moved_row f n (class + 1) cells rest (omega arith) in
    ((refl, subst (λ (k : ℕ). Paired (λ c x y. y ≡ x -ℤ f c) k (take n cells) (take n (moved_by cells (map f (range_with_len (class + 1) n) ++ rest)))) (omega arith) r.0), r.1)

-- a change before and after a row, at step t + 1 with back step k: the shift of a class's cell makes up for its count
pub record Carries (old new : Option Change) (more shift : ℕ → ℤ) (t k class : ℕ) : Type 0 where
  pub counted : count_shift new class ≡ count_shift old class +ℤ more class
  pub older : (i : ℕ) → i ≤ t → noise_shift new class i ≡ noise_shift old class i
  pub newer : shift class +ℤ noise_shift new class k ≡ noise_shift new class (suc t)
  pub level : count_shift new class ≡ noise_shift new class (suc t)

sum-count : (x y : ℕ) (a b c d e : ℤ) → a ≡ pos x +ℤ c → b ≡ pos y +ℤ d → e ≡ c +ℤ d → a +ℤ b ≡ pos (x + y) +ℤ e
sum-count x y a b c d e p q r = omega (arith, ints, p, q, r)

module _ (old new : Option Change) (more shift : ℕ → ℤ) (t k : ℕ) (short : k ≤ t) where
  lane-step : (class : ℕ) (a b : Lane) (x y : ℕ) (c d : ℤ) → Carries old new more shift t k class → length a.noise ≡ t → LaneLinked old class a b → pos y ≡ pos x +ℤ more class → d ≡ c -ℤ shift class → LaneLinked new class (advance k a x c) (advance k b y d)
  lane-step class a b x y c d carries long l counts cells =
      let m = c +ℤ noise_after a.noise k in
      let n = d +ℤ noise_after b.noise k in
      let longer = length_push a.noise m in
      let old-k = l.noise k (omega arith) in
      let new-k = carries.older k short in
      let sum = carries.newer in
      record {
        published = l.published;
        long = length_push a.noise m ∙ (ap (λ (i : ℕ). i + 1) l.long ∙ sym (length_push b.noise n));
        count = let e = l.count in let f = carries.counted in omega (arith, ints);
        noise = λ i h.
            ⊎_elim
            (λ (le : i ≤ t). noise-old b.noise n i (let e = l.long in omega arith) ∙ (l.noise i (omega arith) ∙ (ap (λ (z : ℤ). noise_after a.noise i -ℤ z) (sym (carries.older i le)) ∙ ap (λ (z : ℤ). z -ℤ noise_shift new class i) (sym (noise-old a.noise m i (omega arith))))))
            (λ (gt : t < i).
            let e : i ≡ suc t = omega arith in
            let newest : noise_after (b.noise ++ n ∷ []) (suc t) ≡ noise_after (a.noise ++ m ∷ []) (suc t) -ℤ noise_shift new class (suc t) =
            noise-new b.noise n t (sym l.long ∙ long) ∙ (omega (arith, ints) ∙ ap (λ (z : ℤ). z -ℤ noise_shift new class (suc t)) (sym (noise-new a.noise m t long))) in
            subst (λ (j : ℕ). noise_after (b.noise ++ n ∷ []) j ≡ noise_after (a.noise ++ m ∷ []) j -ℤ noise_shift new class j) (sym e) newest)
            (le-or-gt i t);
      }

  pub lanes_step : (class : ℕ) (as' bs : List Lane) (row row' : List ℕ) (cells cells' : List ℤ) → ((c : ℕ) → Carries old new more shift t k c) → AllFrom (λ _ lane. length lane.noise ≡ t) class as' → Paired (LaneLinked old) class as' bs → Paired (λ c x y. pos y ≡ pos x +ℤ more c) class row row' → Paired (λ c x y. y ≡ x -ℤ shift c) class cells cells' → Paired (LaneLinked new) class (all_advanced k as' row cells) (all_advanced k bs row' cells')
  lanes_step class [] [] row row' cells cells' f h l r q = tt
  lanes_step class (a ∷ as') [] row row' cells cells' f h l r q = absurd l
  lanes_step class [] (b ∷ bs) row row' cells cells' f h l r q = absurd l
  lanes_step class (a ∷ as') (b ∷ bs) [] [] cells cells' f h l r q = tt
  lanes_step class (a ∷ as') (b ∷ bs) (x ∷ row) [] cells cells' f h l r q = absurd r
  lanes_step class (a ∷ as') (b ∷ bs) [] (y ∷ row') cells cells' f h l r q = absurd r
  lanes_step class (a ∷ as') (b ∷ bs) (x ∷ row) (y ∷ row') [] [] f h l r q = tt
  lanes_step class (a ∷ as') (b ∷ bs) (x ∷ row) (y ∷ row') (c ∷ cells) [] f h l r q = absurd q
  lanes_step class (a ∷ as') (b ∷ bs) (x ∷ row) (y ∷ row') [] (d ∷ cells') f h l r q = absurd q
  lanes_step class (a ∷ as') (b ∷ bs) (x ∷ row) (y ∷ row') (c ∷ cells) (d ∷ cells') f (h, hs) (l, ls) (r, rs) (q, qs) =
      (lane-step class a b x y c d (f class) h l r q, lanes_step (suc class) as' bs row row' cells cells' f hs ls rs qs)

  release-same : (class : ℕ) (a b : Lane) → Carries old new more shift t k class → length a.noise ≡ suc t → LaneLinked new class a b → release a ≡ release b
  release-same class a b carries long l =
      let n = l.noise (length a.noise) (omega arith) in
      let m = ap (noise_after b.noise) l.long in
      let level = carries.level ∙ ap (noise_shift new class) (sym long) in
      let c = l.count in
      omega (arith, ints)

  pub releases-same : (class : ℕ) (as' bs : List Lane) → ((c : ℕ) → Carries old new more shift t k c) → AllFrom (λ _ lane. length lane.noise ≡ suc t) class as' → Paired (LaneLinked new) class as' bs → map release as' ≡ map release bs
  releases-same class [] [] f h l = refl
  releases-same class (a ∷ as') [] f h l = absurd l
  releases-same class [] (b ∷ bs) f h l = absurd l
  releases-same class (a ∷ as') (b ∷ bs) f (h, hs) (l, ls) =
      let x = release-same class a b (f class) h l in
      let xs = releases-same (suc class) as' bs f hs ls in cc

-- published alike
pub publish-linked : (change : Option Change) (class : ℕ) (as' bs : List Lane) (zs : List ℤ) → Paired (LaneLinked change) class as' bs → Paired (LaneLinked change) class (all_published as' zs) (all_published bs zs)
publish-linked change class [] [] zs l = tt
publish-linked change class (a ∷ as') [] zs l = absurd l
publish-linked change class [] (b ∷ bs) zs l = absurd l
publish-linked change class (a ∷ as') (b ∷ bs) [] l = tt
publish-linked change class (a ∷ as') (b ∷ bs) (z ∷ zs) (l, ls) = (
  record { published = refl; long = l.long; count = l.count; noise = l.noise },
  publish-linked change (suc class) as' bs zs ls,
)

-- Finishers alike in meaning

alike-after : (one other : Says) (call : Call) → LawfulCall call → Alike one other → Alike (after call one) (after call other)
alike-after one other call h a calls class release l f = a (call ∷ calls) class release (h, l) f

pub alike-begun : (one other : Says) → Alike one other → Alike (after begins one) (after begins other)
alike-begun one other a = alike-after one other begins tt a

pub alike-row : (one other : Says) (class : ℕ) (zs : List ℤ) → class + length zs ≤ class_limit → AllByRecursion (SFits w64) zs → Alike one other → (answers_to one class zs ≡ answers_to other class zs) × Alike (says_after one class zs) (says_after other class zs)
alike-row one other class [] h f a = (refl, a)
alike-row one other class (z ∷ zs) h (f, fs) a =
    let fits : LawfulCall (finishes class z) = (omega arith, f) in
    let head = a [] class z tt fits in
    let rest = alike-row (after (finishes class z) one) (after (finishes class z) other) (suc class) zs (omega arith) fs (alike-after one other (finishes class z) fits a) in
    let tail = rest.0 in
    (cc, rest.1)

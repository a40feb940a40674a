-- The noise of a class: one cell for each part of the cover.
use Rattle.std.proofs.Common.{◌≡◌, ℕ, zero, suc, ◌+◌, ◌*◌, ◌<◌, ◌≤◌, List, [], ◌∷◌, ◌++◌, length, ℤ, pos, ◌+ℤ◌, sym, refl, ap, subst, ⊎_elim, mul-suc, arith}
use Rattle.std.proofs.lemmas.List.{get_or_append_left, get_or_at, length_push}
use Rattle.std.proofs.lemmas.Int.{ints}
use Rattle.plan.specs.Plans.{horizon, Falls, cover, back_asked}
use Rattle.plan.specs.Covers.{cover-suc}
use Rattle.plan.proofs.Asked.{back-asked}
use Rattle.finisher.specs.Finishers.{Within}
use Rattle.runs.specs.Model.{noise_after}
use Rattle.runs.proofs.Facts.{le-or-gt}

-- older noise stays, and the new one stands behind it
pub noise-old : (noise : List ℤ) (n : ℤ) (i : ℕ) → i ≤ length noise → noise_after (noise ++ n ∷ []) i ≡ noise_after noise i
noise-old noise n zero h = refl
noise-old noise n (suc i) h = get_or_append_left noise (n ∷ []) (pos 0) i (omega arith)

pub noise-new : (noise : List ℤ) (n : ℤ) (t : ℕ) → length noise ≡ t → noise_after (noise ++ n ∷ []) (suc t) ≡ n
noise-new noise n t h = get_or_at noise n [] (pos 0) t h

-- each noise is at most a cell's bound for each part of its cover
abbrev pub NoiseBound : ℕ → (ℕ → ℕ) → List ℤ → Type 0
NoiseBound a back noise = (i : ℕ) → i ≤ length noise → Within (a * length (cover back i)) (noise_after noise i) 0

pub noise-none : (a : ℕ) (back : ℕ → ℕ) → NoiseBound a back []
noise-none a back zero h = (omega (arith, ints), omega (arith, ints))
noise-none a back (suc i) h = absurd (omega arith)

pub within-zero : (b c : ℕ) (z : ℤ) → b ≤ c → Within b z 0 → Within c z 0
within-zero b c z h w = (omega (arith, ints, w.0, w.1), omega (arith, ints, w.0, w.1))

pub within-sum : (b c d : ℕ) (y z : ℤ) → b + c ≤ d → Within b y 0 → Within c z 0 → Within d (y +ℤ z) 0
within-sum b c d y z h v w = (omega (arith, ints, v.0, v.1, w.0, w.1), omega (arith, ints, v.0, v.1, w.0, w.1))

module _ (a : ℕ) (back : ℕ → ℕ) (falls : Falls back) where
  pub noise-more : (noise : List ℤ) (cell : ℤ) (t : ℕ) → length noise ≡ t → suc t ≤ horizon → Within a cell 0 → NoiseBound a back noise → NoiseBound a back (noise ++ (cell +ℤ noise_after noise (back_asked back (suc t))) ∷ [])
  noise-more noise cell t l few w h i k =
      let b = back-asked back (suc t) (omega arith) few in
      let f = falls (suc t) (omega arith) few in
      let n = length_push noise (cell +ℤ noise_after noise (back_asked back (suc t))) in
      ⊎_elim
      (λ (le : i ≤ t). subst (λ (z : ℤ). Within (a * length (cover back i)) z 0) (sym (noise-old noise _ i (omega arith))) (h i (omega arith)))
      (λ (gt : t < i).
      let e : i ≡ suc t = omega arith in
      let c : length (cover back (suc t)) ≡ suc (length (cover back (back (suc t)))) = ap length (cover-suc back horizon falls t few) in
      let m = mul-suc a (length (cover back (back (suc t)))) in
      let old = subst (λ (j : ℕ). Within (a * length (cover back (back (suc t)))) (noise_after noise j) 0) (sym b) (h (back (suc t)) (omega arith)) in
      let sum = within-sum a (a * length (cover back (back (suc t)))) (a * length (cover back (suc t))) cell _ (omega (arith, ap (λ (j : ℕ). a * j) c)) w old in
      subst (λ (j : ℕ). Within (a * length (cover back j)) (noise_after (noise ++ (cell +ℤ noise_after noise (back_asked back (suc t))) ∷ []) j) 0) (sym e) (subst (λ (z : ℤ). Within (a * length (cover back (suc t))) z 0) (sym (noise-new noise _ t l)) sum))
      (le-or-gt i t)

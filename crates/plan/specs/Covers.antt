-- The laws of covers, for back steps that fall up to n.
use Rattle.std.specs.Prelude.{◌≡◌, ℕ, zero, suc, ◌+◌, ◌<◌, ◌≤◌, List, [], ◌∷◌, ◌++◌, length, take, slice_set}
use Rattle.std.proofs.Math.Path.{refl, ap, subst⁻¹}
use Rattle.std.proofs.Common.{sym, ap₂, ◌∙◌, append_assoc, append-nil, ⊎_elim, zero-le, le_refl, le_trans, le_of_eq, not-suc-le-zero, arith}
use Rattle.std.proofs.lemmas.List.{take_more_set}
use Rattle.std.proofs.lemmas.Bool.{cases_lt}
use Rattle.plan.specs.Plans.{FallsTo, holds, cover_in, cover, breadth}
use Rattle.plan.specs.Laws.{SideBySide, holding_of}
use Rattle.plan.specs.Sums.{greatest-le, le-greatest, greatest-grows}
use Rattle.plan.specs.Parts.{holds-inside, holds-before, holds_after}

pub cover-zero : (p : ℕ → ℕ) → cover p 0 ≡ []
unfolding cover cover_in
cover-zero p = refl

cover_in-length : (p : ℕ → ℕ) (m t : ℕ) → length (cover_in p m t) ≤ m
unfolding cover_in
cover_in-length p zero t = zero-le
cover_in-length p (suc m) zero = zero-le
cover_in-length p (suc m) (suc t) = omega (arith, cover_in-length p m (p (suc t)))

pub cover-length : (p : ℕ → ℕ) (t : ℕ) → length (cover p t) ≤ t
unfolding cover
cover-length p t = cover_in-length p t t

-- no cover of a step up to k has more than `breadth p k` parts
pub cover-breadth : (p : ℕ → ℕ) (k t : ℕ) → t ≤ k → length (cover p t) ≤ breadth p k
unfolding breadth
cover-breadth p k zero h = le_trans (le_of_eq (ap length (cover-zero p))) zero-le
cover-breadth p k (suc t) h = le-greatest (λ t. length (cover p t)) k (suc t) (omega arith) h

pub breadth-grows : (p : ℕ → ℕ) (j k : ℕ) → j ≤ k → breadth p j ≤ breadth p k
unfolding breadth
breadth-grows p j k h = greatest-grows (λ t. length (cover p t)) (λ t. length (cover p t)) j k h (λ t _ _. le_refl (length (cover p t)))

pub breadth-le : (p : ℕ → ℕ) (k : ℕ) → breadth p k ≤ k
unfolding breadth
breadth-le p k = greatest-le (λ t. length (cover p t)) k k (λ t _ u. le_trans (cover-length p t) u)

module _ (p : ℕ → ℕ) (n : ℕ) (falls : FallsTo n p) where
  back-lt : (t : ℕ) → suc t ≤ n → p (suc t) < suc t
  back-lt t u = falls (suc t) (omega arith) u

  enough : (f g t : ℕ) → t ≤ n → t ≤ f → t ≤ g → cover_in p f t ≡ cover_in p g t
  unfolding cover_in
  enough zero zero t u a b = refl
  enough zero (suc g) zero u a b = refl
  enough zero (suc g) (suc t) u a b = absurd (not-suc-le-zero a)
  enough (suc f) zero zero u a b = refl
  enough (suc f) zero (suc t) u a b = absurd (not-suc-le-zero b)
  enough (suc f) (suc g) zero u a b = refl
  enough (suc f) (suc g) (suc t) u a b =
      let lt : p (suc t) < suc t = back-lt t u in
      ap (λ (us : List ℕ). suc t ∷ us) (enough f g (p (suc t)) (omega arith) (omega arith) (omega arith))

  pub cover-suc : (t : ℕ) → suc t ≤ n → cover p (suc t) ≡ suc t ∷ cover p (p (suc t))
  unfolding cover cover_in
  cover-suc t u =
      let lt : p (suc t) < suc t = back-lt t u in
      ap (λ (us : List ℕ). suc t ∷ us) (enough t (p (suc t)) (p (suc t)) (omega arith) (omega arith) (le_refl (p (suc t))))

  pub cover-step : (t : ℕ) → 1 ≤ t → t ≤ n → cover p t ≡ t ∷ cover p (p t)
  cover-step zero l u = absurd (not-suc-le-zero l)
  cover-step (suc t) l u = cover-suc t u

  -- a list that is filled from the front, step by step
  pub cover-more : (xs all : List ℕ) (i t b : ℕ) → 1 ≤ t → t ≤ n → i < length xs → b ≡ p t
      → take i xs ++ cover p t ≡ all → take (i + 1) (slice_set xs i t) ++ cover p b ≡ all
  cover-more xs all i t b l u h e so_far =
      ap₂ ◌++◌ (take_more_set xs i t h) (ap (cover p) e) ∙ append_assoc (take i xs) (t ∷ []) (cover p (p t))
      ∙ ap (λ (us : List ℕ). take i xs ++ us) (sym (cover-step t l u)) ∙ so_far

  -- it is full once step 0 is reached
  pub cover-done : (xs all : List ℕ) (t : ℕ) → t ≤ 0 → xs ++ cover p t ≡ all → xs ≡ all
  cover-done xs all zero h e = sym (append-nil xs) ∙ ap (λ (us : List ℕ). xs ++ us) (sym (cover-zero p)) ∙ e
  cover-done xs all (suc t) h e = absurd (not-suc-le-zero h)

  tiles_in : (m t : ℕ) → t ≤ m → t ≤ n → SideBySide p t (cover p t)
  tiles_in m zero a u = subst⁻¹ (λ (us : List ℕ). SideBySide p 0 us) (cover-zero p) refl
  tiles_in zero (suc t) a u = absurd (not-suc-le-zero a)
  tiles_in (suc m) (suc t) a u =
      let lt : p (suc t) < suc t = back-lt t u in
      subst⁻¹ (λ (us : List ℕ). SideBySide p (suc t) us) (cover-suc t u) (refl, lt, tiles_in m (p (suc t)) (omega arith) (omega arith))

  pub cover-tiles : (t : ℕ) → t ≤ n → SideBySide p t (cover p t)
  cover-tiles t u = tiles_in t t (le_refl t) u

  step_count : (t s : ℕ) → suc t ≤ n → holding_of p (cover p (suc t)) s ≡ holds p (suc t) s + holding_of p (cover p (p (suc t))) s
  step_count t s u = ap (λ us. holding_of p us s) (cover-suc t u)

  none-count : (s : ℕ) → holding_of p (cover p 0) s ≡ 0
  none-count s = ap (λ us. holding_of p us s) (cover-zero p)

  none_in : (m t s : ℕ) → t ≤ m → t ≤ n → t < s → holding_of p (cover p t) s ≡ 0
  none_in m zero s a u h = none-count s
  none_in zero (suc t) s a u h = absurd (not-suc-le-zero a)
  none_in (suc m) (suc t) s a u h =
      let lt : p (suc t) < suc t = back-lt t u in
      step_count t s u ∙ ap₂ ◌+◌ (holds_after p (suc t) s h) (none_in m (p (suc t)) s (omega arith) (omega arith) (omega arith))

  -- no part of the cover of t holds a step after t
  pub cover-none : (t s : ℕ) → t ≤ n → t < s → holding_of p (cover p t) s ≡ 0
  cover-none t s u h = none_in t t s (le_refl t) u h

  once_in : (m t s : ℕ) → t ≤ m → t ≤ n → 1 ≤ s → s ≤ t → holding_of p (cover p t) s ≡ 1
  once_in m zero s a u l h = absurd (not-suc-le-zero (le_trans l h))
  once_in zero (suc t) s a u l h = absurd (not-suc-le-zero a)
  once_in (suc m) (suc t) s a u l h =
      let lt : p (suc t) < suc t = back-lt t u in
      step_count t s u
      ∙ ⊎_elim
      (λ (b : p (suc t) < s). ap₂ ◌+◌ (holds-inside p (suc t) s b h) (cover-none (p (suc t)) s (omega arith) b))
      (λ (b : s ≤ p (suc t)). ap₂ ◌+◌ (holds-before p (suc t) s b) (once_in m (p (suc t)) s (omega arith) (omega arith) l b))
      (cases_lt (p (suc t)) s)

  -- exactly one part of the cover of t holds a step from 1 to t
  pub cover-once : (t s : ℕ) → t ≤ n → 1 ≤ s → s ≤ t → holding_of p (cover p t) s ≡ 1
  cover-once t s u l h = once_in t t s (le_refl t) u l h

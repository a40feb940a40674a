-- Depth and breadth of a plan that halves: p (2 u + 1) = 2 u and p (2 u) = 2 p u.
-- A step s counts among the parts 1 to k as the step (s + 1) / 2 among the parts 1 to k / 2, once more if s is odd.
use Rattle.std.specs.Prelude.{◌≡◌, ℕ, zero, suc, ◌+◌, ◌-◌, ◌*◌, ◌/◌, ◌%◌, ◌^◌, ◌<◌, ◌≤◌, cond, ◌⊎◌, length, nat_le}
use Rattle.std.proofs.Math.Path.{refl, sym, ap, subst⁻¹}
use Rattle.std.proofs.Common.{◌∙◌, inl, inr, ⊎_elim, le_refl, le_of_eq, not-suc-le-zero}
use Prim.Native.Nat.{zero-le}
use Rattle.std.proofs.Math.Nat.{le_trans, le_antisymm, pow-succ'}
use native.Mathlib.Omega.{arith}
use Rattle.std.proofs.Math.Pow.{pow_pos}
use Rattle.std.proofs.lemmas.Bool.{cases_lt, cond-true, cond-false, cond_both, le-leb, lt-leb}
use Rattle.plan.specs.Plans.{FallsTo, holds, holding, cover, depth, breadth, total}
use Rattle.plan.specs.Sums.{greatest-le}
use Rattle.plan.specs.Parts.{holds-inside, holds-before, holds_after, holding-depth}
use Rattle.plan.specs.Covers.{cover-zero, cover-step, cover-breadth}

pub record Halves (p : ℕ → ℕ) : Type 0 where
  pub odd : (u : ℕ) → p (2 * u + 1) ≡ 2 * u
  pub even : (u : ℕ) → p (2 * u) ≡ 2 * p u

pub parity : (t : ℕ) → (t ≡ 2 * (t / 2)) ⊎ (t ≡ 2 * (t / 2) + 1)
parity t = ⊎_elim (λ (h : t % 2 < 1). inl (omega arith)) (λ (h : 1 ≤ t % 2). inr (omega arith)) (cases_lt (t % 2) 1)

-- two plans that halve are one
same_in : (p q : ℕ → ℕ) → Halves p → Halves q → (m t : ℕ) → t ≤ m → p t ≡ q t
same_in p q hp hq zero t a =
    let e : t ≡ 2 * 0 = omega arith in
    let x : p t ≡ 2 * p 0 = ap p e ∙ hp.even 0 in
    let y : q t ≡ 2 * q 0 = ap q e ∙ hq.even 0 in
    let x' : p t ≡ p 0 = ap p e in
    let y' : q t ≡ q 0 = ap q e in
    omega arith
same_in p q hp hq (suc m) t a =
    ⊎_elim
    (λ (e : t ≡ 2 * (t / 2)).
    ap p e ∙ hp.even (t / 2) ∙ ap (λ (x : ℕ). 2 * x) (same_in p q hp hq m (t / 2) (omega arith)) ∙ sym (ap q e ∙ hq.even (t / 2)))
    (λ (e : t ≡ 2 * (t / 2) + 1). ap p e ∙ hp.odd (t / 2) ∙ sym (ap q e ∙ hq.odd (t / 2)))
    (parity t)

pub halves-same : (p q : ℕ → ℕ) → Halves p → Halves q → (t : ℕ) → p t ≡ q t
halves-same p q hp hq t = same_in p q hp hq t t (le_refl t)

-- the count that an odd step s adds among the parts 1 to k
abbrev bit : ℕ → ℕ → ℕ
bit s k = cond (nat_le s k) (s % 2) 0

bit_in : (s k : ℕ) → s ≤ k → bit s k ≡ s % 2
bit_in s k h = cond-true (nat_le s k) (s % 2) 0 (le-leb s k h)

bit-out : (s k : ℕ) → k < s → bit s k ≡ 0
bit-out s k h = cond-false (nat_le s k) (s % 2) 0 (lt-leb s k h)

bit_le : (s k : ℕ) → bit s k ≤ 1
bit_le s k = cond_both (nat_le s k) (s % 2) 0 (λ (x : ℕ). x ≤ 1) (λ _. omega arith) (λ _. zero-le)

-- an even step adds as much as the one before it
bit-even : (s m : ℕ) → bit s (2 * m + 1) ≡ bit s (2 * suc m)
bit-even s m =
    ⊎_elim
    (λ (h : 2 * m + 1 < s).
    bit-out s (2 * m + 1) h
    ∙ ⊎_elim
    (λ (g : 2 * suc m < s). sym (bit-out s (2 * suc m) g))
    (λ (g : s ≤ 2 * suc m). let e : 0 ≡ s % 2 = omega arith in e ∙ sym (bit_in s (2 * suc m) g))
    (cases_lt (2 * suc m) s))
    (λ (h : s ≤ 2 * m + 1). bit_in s (2 * m + 1) h ∙ sym (bit_in s (2 * suc m) (omega arith)))
    (cases_lt (2 * m + 1) s)

module _ (p : ℕ → ℕ) (halves : Halves p) where
  falls_in : (m t : ℕ) → t ≤ m → 1 ≤ t → p t < t
  falls_in zero t a l = absurd (not-suc-le-zero (le_trans l a))
  falls_in (suc m) t a l =
      ⊎_elim
      (λ (e : t ≡ 2 * (t / 2)).
      let x : p t ≡ 2 * p (t / 2) = ap p e ∙ halves.even (t / 2) in
      let y : p (t / 2) < t / 2 = falls_in m (t / 2) (omega arith) (omega arith) in
      omega arith)
      (λ (e : t ≡ 2 * (t / 2) + 1). let x : p t ≡ 2 * (t / 2) = ap p e ∙ halves.odd (t / 2) in omega arith)
      (parity t)

  pub halves-fall : (n : ℕ) → FallsTo n p
  halves-fall n t l u = falls_in t t (le_refl t) l

  -- an odd part holds its own step alone
  odd_part : (m s : ℕ) → 1 ≤ s → bit s (2 * m) + holds p (2 * m + 1) s ≡ bit s (2 * m + 1)
  odd_part m s l =
      let back : p (2 * m + 1) ≡ 2 * m = halves.odd m in
      ⊎_elim
      (λ (h : 2 * m < s).
      ⊎_elim
      (λ (g : 2 * m + 1 < s). omega (arith, bit-out s (2 * m) h, holds_after p (2 * m + 1) s g, bit-out s (2 * m + 1) g))
      (λ (g : s ≤ 2 * m + 1). omega (arith, bit-out s (2 * m) h, holds-inside p (2 * m + 1) s (omega arith) g, bit_in s (2 * m + 1) g))
      (cases_lt (2 * m + 1) s))
      (λ (h : s ≤ 2 * m).
      omega (arith, bit_in s (2 * m) h, holds-before p (2 * m + 1) s (omega arith), bit_in s (2 * m + 1) (omega arith)))
      (cases_lt (2 * m) s)

  -- an even part holds what the part of half its step holds, doubled
  even-part : (m s : ℕ) → 1 ≤ s → holds p (2 * m) s ≡ holds p m ((s + 1) / 2)
  even-part m s l =
      let back : p (2 * m) ≡ 2 * p m = halves.even m in
      ⊎_elim
      (λ (h : p m < (s + 1) / 2).
      ⊎_elim
      (λ (g : m < (s + 1) / 2). holds_after p (2 * m) s (omega arith) ∙ sym (holds_after p m ((s + 1) / 2) g))
      (λ (g : (s + 1) / 2 ≤ m). holds-inside p (2 * m) s (omega arith) (omega arith) ∙ sym (holds-inside p m ((s + 1) / 2) h g))
      (cases_lt m ((s + 1) / 2)))
      (λ (h : (s + 1) / 2 ≤ p m). holds-before p (2 * m) s (omega arith) ∙ sym (holds-before p m ((s + 1) / 2) h))
      (cases_lt (p m) ((s + 1) / 2))

  more : (k s : ℕ) → holding p (suc k) s ≡ holding p k s + holds p (suc k) s
  unfolding holding total
  more k s = refl

  odd-from : (m s : ℕ) → 1 ≤ s → holding p (2 * m) s ≡ holding p m ((s + 1) / 2) + bit s (2 * m)
      → holding p (2 * m + 1) s ≡ holding p m ((s + 1) / 2) + bit s (2 * m + 1)
  odd-from m s l ih =
      let e : 2 * m + 1 ≡ suc (2 * m) = omega arith in
      let x : holding p (2 * m + 1) s ≡ holding p (2 * m) s + holds p (2 * m + 1) s = subst⁻¹ (λ (u : ℕ). holding p u s ≡ holding p (2 * m) s + holds p u s) e (more (2 * m) s) in
      let y : bit s (2 * m) + holds p (2 * m + 1) s ≡ bit s (2 * m + 1) = odd_part m s l in
      omega arith

  even-from : (m s : ℕ) → 1 ≤ s → holding p (2 * m + 1) s ≡ holding p m ((s + 1) / 2) + bit s (2 * m + 1)
      → holding p (2 * suc m) s ≡ holding p (suc m) ((s + 1) / 2) + bit s (2 * suc m)
  even-from m s l ih =
      let e : 2 * suc m ≡ suc (2 * m + 1) = omega arith in
      let x : holding p (2 * suc m) s ≡ holding p (2 * m + 1) s + holds p (2 * suc m) s = subst⁻¹ (λ (u : ℕ). holding p u s ≡ holding p (2 * m + 1) s + holds p u s) e (more (2 * m + 1) s) in
      let y : holds p (2 * suc m) s ≡ holds p (suc m) ((s + 1) / 2) = even-part (suc m) s l in
      let z : bit s (2 * m + 1) ≡ bit s (2 * suc m) = bit-even s m in
      let w : holding p (suc m) ((s + 1) / 2) ≡ holding p m ((s + 1) / 2) + holds p (suc m) ((s + 1) / 2) = more m ((s + 1) / 2) in
      omega arith

  holding-even : (m s : ℕ) → 1 ≤ s → holding p (2 * m) s ≡ holding p m ((s + 1) / 2) + bit s (2 * m)
  unfolding holding total
  holding-even zero s l = sym (ap (λ (x : ℕ). 0 + x) (bit-out s 0 l))
  holding-even (suc m) s l = even-from m s l (odd-from m s l (holding-even m s l))

  -- the parts 1 to k that hold s
  pub holding-half : (k s : ℕ) → 1 ≤ s → holding p k s ≡ holding p (k / 2) ((s + 1) / 2) + bit s k
  holding-half k s l =
      ⊎_elim
      (λ (e : k ≡ 2 * (k / 2)).
      subst⁻¹ (λ (x : ℕ). holding p x s ≡ holding p (k / 2) ((s + 1) / 2) + bit s x) e (holding-even (k / 2) s l))
      (λ (e : k ≡ 2 * (k / 2) + 1).
      subst⁻¹ (λ (x : ℕ). holding p x s ≡ holding p (k / 2) ((s + 1) / 2) + bit s x) e
      (odd-from (k / 2) s l (holding-even (k / 2) s l)))
      (parity k)

  -- fewer than 2 ^ j parts: at most j of them hold one step
  holding-log : (j k s : ℕ) → 1 ≤ s → k < 2 ^ j → holding p k s ≤ j
  unfolding holding total
  holding-log zero zero s l h = zero-le
  holding-log zero (suc k) s l h = omega arith
  holding-log (suc j) k s l h =
      let half : k / 2 < 2 ^ j = omega (arith, pow-succ' 2 j) in
      omega (arith, holding-half k s l, holding-log j (k / 2) ((s + 1) / 2) (omega arith) half, bit_le s k)

  first_part : p 1 ≡ 0 → holding p 1 1 ≡ 1
  unfolding holding total
  first_part back = ap (λ (x : ℕ). 0 + x) (holds-inside p 1 1 (omega arith) (le_refl 1))

  -- step 1 is held most often
  holding-one : (j k : ℕ) → 2 ^ j ≤ k → k < 2 * 2 ^ j → holding p k 1 ≡ j + 1
  holding-one zero k a b =
      let e : k ≡ 2 * 0 + 1 = omega arith in
      subst⁻¹ (λ (x : ℕ). holding p x 1 ≡ 1) e (first_part (halves.odd 0))
  holding-one (suc j) k a b =
      let e : 2 ^ suc j ≡ 2 * 2 ^ j = pow-succ' 2 j in
      let low : 2 ^ j ≤ k / 2 = omega arith in
      let high : k / 2 < 2 * 2 ^ j = omega arith in
      let one : 1 ≤ k = omega (arith, pow_pos j) in
      let x : holding p k 1 ≡ holding p (k / 2) 1 + bit 1 k = holding-half k 1 (le_refl 1) in
      omega (arith, holding-one j (k / 2) low high, bit_in 1 k one)

  pub halves-depth : (j k : ℕ) → 2 ^ j ≤ k → k < 2 * 2 ^ j → depth p k ≡ j + 1
  unfolding depth
  halves-depth j k a b =
      le_antisymm
      (greatest-le (holding p k) k (j + 1)
      (λ s l _. le_trans (holding-log (suc j) k s l (omega (arith, pow-succ' 2 j))) (omega arith)))
      (le_trans (le_of_eq (sym (holding-one j k a b))) (holding-depth p k 1))

  -- the cover of 2 u has as many parts as that of u, and the cover of 2 u + 1 one more
  length-even_in : (m u : ℕ) → u ≤ m → length (cover p (2 * u)) ≡ length (cover p u)
  length-even_in m zero a = refl
  length-even_in zero (suc u) a = absurd (not-suc-le-zero a)
  length-even_in (suc m) (suc u) a =
      let lt : p (suc u) < suc u = halves-fall (suc u) (suc u) (omega arith) (le_refl (suc u)) in
      ap length (cover-step p (2 * suc u) (halves-fall (2 * suc u)) (2 * suc u) (omega arith) (le_refl (2 * suc u)))
      ∙ ap suc (ap (λ (t : ℕ). length (cover p t)) (halves.even (suc u)) ∙ length-even_in m (p (suc u)) (omega arith))
      ∙ sym (ap length (cover-step p (suc u) (halves-fall (suc u)) (suc u) (omega arith) (le_refl (suc u))))

  length-even : (u : ℕ) → length (cover p (2 * u)) ≡ length (cover p u)
  length-even u = length-even_in u u (le_refl u)

  length-odd : (u : ℕ) → length (cover p (2 * u + 1)) ≡ suc (length (cover p u))
  length-odd u =
      ap length (cover-step p (2 * u + 1) (halves-fall (2 * u + 1)) (2 * u + 1) (omega arith) (le_refl (2 * u + 1)))
      ∙ ap suc (ap (λ (t : ℕ). length (cover p t)) (halves.odd u) ∙ length-even u)

  length_at : (t : ℕ) → ((t ≡ 2 * (t / 2)) × (length (cover p t) ≡ length (cover p (t / 2))))
      ⊎ ((t ≡ 2 * (t / 2) + 1) × (length (cover p t) ≡ suc (length (cover p (t / 2)))))
  length_at t =
      ⊎_elim
      (λ (e : t ≡ 2 * (t / 2)). inl (e, ap (λ (x : ℕ). length (cover p x)) e ∙ length-even (t / 2)))
      (λ (e : t ≡ 2 * (t / 2) + 1). inr (e, ap (λ (x : ℕ). length (cover p x)) e ∙ length-odd (t / 2)))
      (parity t)

  length-lt : (j t : ℕ) → t < 2 ^ j → length (cover p t) ≤ j
  length-lt zero t h =
      let e : t ≡ 0 = omega arith in
      le_of_eq (ap (λ (x : ℕ). length (cover p x)) e ∙ ap length (cover-zero p))
  length-lt (suc j) t h =
      let half : t / 2 < 2 ^ j = omega (arith, pow-succ' 2 j) in
      omega (arith, length_at t, length-lt j (t / 2) half)

  -- only 2 ^ j - 1 has j parts below 2 ^ j
  length-less : (j t : ℕ) → t + 1 < 2 * 2 ^ j → length (cover p t) ≤ j
  length-less zero t h = length-lt 0 t (omega arith)
  length-less (suc j) t h =
      let e : 2 ^ suc j ≡ 2 * 2 ^ j = pow-succ' 2 j in
      ⊎_elim
      (λ (x : (t ≡ 2 * (t / 2)) × (length (cover p t) ≡ length (cover p (t / 2)))).
      omega (arith, length-lt (suc j) (t / 2) (omega arith)))
      (λ (x : (t ≡ 2 * (t / 2) + 1) × (length (cover p t) ≡ suc (length (cover p (t / 2))))).
      omega (arith, length-less j (t / 2) (omega arith)))
      (length_at t)

  length-ones : (j t : ℕ) → t + 1 ≡ 2 ^ j → length (cover p t) ≡ j
  length-ones zero t h =
      let e : t ≡ 0 = omega arith in
      ap (λ (x : ℕ). length (cover p x)) e ∙ ap length (cover-zero p)
  length-ones (suc j) t h =
      let e : 2 ^ suc j ≡ 2 * 2 ^ j = pow-succ' 2 j in
      omega (arith, length_at t, length-ones j (t / 2) (omega arith))

  pub halves-breadth : (j k : ℕ) → 2 ^ j ≤ k + 1 → k + 1 < 2 * 2 ^ j → breadth p k ≡ j
  unfolding breadth
  halves-breadth j k a b =
      le_antisymm
      (greatest-le (λ t. length (cover p t)) k j (λ t _ u. length-less j t (omega arith)))
      (le_trans (le_of_eq (sym (length-ones j (2 ^ j - 1) (omega (arith, pow_pos j))))) (cover-breadth p k (2 ^ j - 1) (omega arith)))

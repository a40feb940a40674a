-- Laws of `total` and `greatest`.
use Rattle.std.specs.Prelude.{◌≡◌, ℕ, zero, suc, ◌+◌, ◌≤◌, max, refl}
use Rattle.std.proofs.Common.{ap₂, ⊎_elim, zero-le, le_refl, le_trans, le_antisymm, le-add_left, le-add_right, arith}
use Rattle.std.proofs.Math.Path.{subst⁻¹}
use Rattle.std.proofs.Math.Nat.{le_step, le-suc_iff, le-max_left, le-max_right, max-le}
use Rattle.plan.specs.Plans.{total, greatest}

pub greatest-le : (f : ℕ → ℕ) (k b : ℕ) → ((t : ℕ) → 1 ≤ t → t ≤ k → f t ≤ b) → greatest f k ≤ b
unfolding greatest
greatest-le f zero b h = zero-le
greatest-le f (suc k) b h = max-le (greatest-le f k b (λ t l u. h t l (le_step u))) (h (suc k) (omega arith) (le_refl (suc k)))

pub le-greatest : (f : ℕ → ℕ) (k t : ℕ) → 1 ≤ t → t ≤ k → f t ≤ greatest f k
unfolding greatest
le-greatest f zero t l u = omega arith
le-greatest f (suc k) t l u =
    ⊎_elim
    (λ (h : t ≤ k). le_trans (le-greatest f k t l h) (le-max_left (greatest f k) (f (suc k))))
    (λ (e : t ≡ suc k). subst⁻¹ (λ (x : ℕ). f x ≤ max (greatest f k) (f (suc k))) e (le-max_right (greatest f k) (f (suc k))))
    (le-suc_iff.0 u)

-- f t is the greatest
pub greatest-is : (f : ℕ → ℕ) (k t : ℕ) → 1 ≤ t → t ≤ k → ((u : ℕ) → 1 ≤ u → u ≤ k → f u ≤ f t) → greatest f k ≡ f t
greatest-is f k t l u h = le_antisymm (greatest-le f k (f t) h) (le-greatest f k t l u)

pub greatest-grows : (f g : ℕ → ℕ) (j k : ℕ) → j ≤ k → ((t : ℕ) → 1 ≤ t → t ≤ j → f t ≤ g t) → greatest f j ≤ greatest g k
greatest-grows f g j k jk h = greatest-le f j (greatest g k) (λ t l u. le_trans (h t l u) (le-greatest g k t l (le_trans u jk)))

pub greatest-same : (f g : ℕ → ℕ) (k : ℕ) → ((t : ℕ) → 1 ≤ t → t ≤ k → f t ≡ g t) → greatest f k ≡ greatest g k
unfolding greatest
greatest-same f g zero h = refl
greatest-same f g (suc k) h = ap₂ max (greatest-same f g k (λ t l u. h t l (le_step u))) (h (suc k) (omega arith) (le_refl (suc k)))

pub total-same : (f g : ℕ → ℕ) (k : ℕ) → ((t : ℕ) → 1 ≤ t → t ≤ k → f t ≡ g t) → total f k ≡ total g k
unfolding total
total-same f g zero h = refl
total-same f g (suc k) h = ap₂ ◌+◌ (total-same f g k (λ t l u. h t l (le_step u))) (h (suc k) (omega arith) (le_refl (suc k)))

pub total-none : (f : ℕ → ℕ) (k : ℕ) → ((t : ℕ) → 1 ≤ t → t ≤ k → f t ≡ 0) → total f k ≡ 0
unfolding total
total-none f zero h = refl
total-none f (suc k) h = ap₂ ◌+◌ (total-none f k (λ t l u. h t l (le_step u))) (h (suc k) (omega arith) (le_refl (suc k)))

pub total-le : (f : ℕ → ℕ) (k : ℕ) → ((t : ℕ) → f t ≤ 1) → total f k ≤ k
unfolding total
total-le f zero h = zero-le
total-le f (suc k) h = omega (arith, total-le f k h, h (suc k))

pub le_total : (f : ℕ → ℕ) (k t : ℕ) → 1 ≤ t → t ≤ k → f t ≤ total f k
unfolding total
le_total f zero t l u = omega arith
le_total f (suc k) t l u =
    ⊎_elim
    (λ (h : t ≤ k). le_trans (le_total f k t l h) (le-add_right (total f k) (f (suc k))))
    (λ (e : t ≡ suc k). subst⁻¹ (λ (x : ℕ). f x ≤ total f k + f (suc k)) e (le-add_left (f (suc k)) (total f k)))
    (le-suc_iff.0 u)

pub total-grows : (f : ℕ → ℕ) (j k : ℕ) → j ≤ k → total f j ≤ total f k
unfolding total
total-grows f zero zero h = zero-le
total-grows f (suc j) zero h = omega arith
total-grows f j (suc k) h =
    ⊎_elim
    (λ (l : j ≤ k). le_trans (total-grows f j k l) (le-add_right (total f k) (f (suc k))))
    (λ (e : j ≡ suc k). subst⁻¹ (λ (x : ℕ). total f x ≤ total f (suc k)) e (le_refl (total f (suc k))))
    (le-suc_iff.0 h)

-- The dyadic plan halves, and so does `t & (t - 1)`.
use Rattle.std.specs.Prelude.{◌≡◌, ℕ, zero, suc, ◌+◌, ◌-◌, ◌*◌, ◌/◌, ◌%◌, ◌^◌, ◌<◌, ◌≤◌, min, ◌==◌, ◌≢◌, bit_and, refl}
use Rattle.std.proofs.Common.{sym, ap, ap₂, ◌∙◌, subst, ⊎_elim, zero-le, suc-le-suc, le_refl, le_trans, mod-eq_of_lt, pow-suc, not-suc-le-zero, add-one, arith, pow_pos}
use Rattle.std.proofs.Math.Path.{subst⁻¹}
use Rattle.std.proofs.Math.Nat.{le-suc_iff, pow-succ', mod-one}
use Rattle.std.proofs.Math.Arith.{mod-mul}
use Rattle.std.specs.Int.Bits.{and_step, and_self}
use Rattle.std.proofs.Math.Pow.{mod-mod-pow}
use Rattle.std.proofs.lemmas.Bool.{cases_eq, cond-true, cond-false, eq-eqb, ne_eqb}
use Rattle.plan.specs.Plans.{FallsTo}
use Rattle.plan.specs.Known.{power_in, dyadic}
use Rattle.plan.specs.Halving.{Halves, halves-same, halves-fall, parity}

below_power : (j : ℕ) → j < 2 ^ j
below_power zero = le_refl 1
below_power (suc j) = omega (arith, below_power j, pow-succ' 2 j)

-- the largest power so far, where the next one divides t and where it does not
power-next : (j t : ℕ) → t % 2 ^ suc j ≡ 0 → power_in (suc j) t ≡ 2 ^ suc j
unfolding power_in
power-next j t e = cond-true (t % 2 ^ suc j == 0) (2 ^ suc j) (power_in j t) (eq-eqb (t % 2 ^ suc j) 0 e)

power-stays : (j t : ℕ) → (t % 2 ^ suc j ≢ 0) → power_in (suc j) t ≡ power_in j t
unfolding power_in
power-stays j t n = cond-false (t % 2 ^ suc j == 0) (2 ^ suc j) (power_in j t) (ne_eqb (t % 2 ^ suc j) 0 n)

power_zero : (t : ℕ) → power_in 0 t ≡ 1
unfolding power_in
power_zero t = refl

odd-rest : (j u : ℕ) → (2 * u + 1) % 2 ^ suc j ≢ 0
odd-rest j u e =
    let x : (2 * u + 1) % 2 ^ suc j % 2 ≡ (2 * u + 1) % 2 = subst (λ (i : ℕ). (2 * u + 1) % 2 ^ i % 2 ≡ (2 * u + 1) % 2) (add-one j) (mod-mod-pow (2 * u + 1) j 1) in
    let y : (2 * u + 1) % 2 ^ suc j % 2 ≡ 0 = ap (λ (r : ℕ). r % 2) e in
    let z : (2 * u + 1) % 2 ≡ 0 = sym x ∙ y in
    omega arith

power-odd : (j u : ℕ) → power_in j (2 * u + 1) ≡ 1
unfolding power_in
power-odd zero u = refl
power-odd (suc j) u = power-stays j (2 * u + 1) (odd-rest j u) ∙ power-odd j u

even-rest : (j u : ℕ) → (2 * u) % 2 ^ suc j ≡ 2 * (u % 2 ^ j)
even-rest j u =
    let half : 2 * u / 2 ≡ u = omega arith in
    let none : 2 * u % 2 ≡ 0 = omega arith in
    ap (λ (d : ℕ). 2 * u % d) (pow-suc 2 j)
    ∙ mod-mul (2 * u) (pow_pos j) (pow_pos 1)
    ∙ ap₂ (λ (x y : ℕ). x % 2 ^ j * 2 + y) half none
    ∙ omega arith

power-even : (j u : ℕ) → power_in (suc j) (2 * u) ≡ 2 * power_in j u
power-even zero u = power-next 0 (2 * u) (omega arith) ∙ ap (λ (x : ℕ). 2 * x) (sym (power_zero u))
power-even (suc j) u =
    ⊎_elim
    (λ (e : u % 2 ^ suc j ≡ 0).
    power-next (suc j) (2 * u) (even-rest (suc j) u ∙ ap (λ (x : ℕ). 2 * x) e) ∙ pow-succ' 2 (suc j)
    ∙ ap (λ (x : ℕ). 2 * x) (sym (power-next j u e)))
    (λ (n : u % 2 ^ suc j ≡ 0 → ⊥).
    power-stays (suc j) (2 * u) (λ e. n (omega (arith, even-rest (suc j) u))) ∙ power-even j u
    ∙ ap (λ (x : ℕ). 2 * x) (sym (power-stays j u n)))
    (cases_eq (u % 2 ^ suc j) 0)

-- no power beyond 2 ^ t divides t
power-enough : (t j : ℕ) → 1 ≤ t → t ≤ j → power_in j t ≡ power_in t t
power-enough t zero l h = absurd (not-suc-le-zero (le_trans l h))
power-enough t (suc j) l h =
    ⊎_elim
    (λ (u : t ≤ j).
    let small : t < 2 ^ suc j = omega (arith, below_power (suc j)) in
    power-stays j t (λ e. omega (arith, mod-eq_of_lt small)) ∙ power-enough t j l u)
    (λ (e : t ≡ suc j). ap (λ (x : ℕ). power_in x t) (sym e))
    (le-suc_iff.0 h)

dyadic-odd : (u : ℕ) → dyadic (2 * u + 1) ≡ 2 * u
unfolding dyadic
dyadic-odd u = omega (arith, power-odd (2 * u + 1) u)

dyadic-even : (u : ℕ) → dyadic (2 * u) ≡ 2 * dyadic u
unfolding dyadic
dyadic-even zero = omega arith
dyadic-even (suc v) =
    let e : 2 * suc v ≡ suc (2 * v + 1) = omega arith in
    let x : power_in (2 * suc v) (2 * suc v) ≡ 2 * power_in (2 * v + 1) (suc v) = ap (λ (j : ℕ). power_in j (2 * suc v)) e ∙ power-even (2 * v + 1) (suc v) in
    let y : power_in (2 * v + 1) (suc v) ≡ power_in (suc v) (suc v) = power-enough (suc v) (2 * v + 1) (omega arith) (omega arith) in
    omega arith

pub dyadic-halves : Halves dyadic
dyadic-halves = record { odd = dyadic-odd; even = dyadic-even }

pub dyadic-falls : (n : ℕ) → FallsTo n dyadic
dyadic-falls = halves-fall dyadic dyadic-halves

abbrev pub cleared : ℕ → ℕ
cleared t = bit_and t (t - 1)

cleared-odd : (u : ℕ) → cleared (2 * u + 1) ≡ 2 * u
cleared-odd u =
    let a : (2 * u + 1) / 2 ≡ u = omega arith in
    let b : (2 * u + 1 - 1) / 2 ≡ u = omega arith in
    let c : min ((2 * u + 1) % 2) ((2 * u + 1 - 1) % 2) ≡ 0 = omega arith in
    and_step (2 * u + 1) (2 * u + 1 - 1) ∙ ap₂ (λ (x y : ℕ). x * 2 + y) (ap₂ bit_and a b ∙ and_self u) c ∙ omega arith

cleared-even : (u : ℕ) → cleared (2 * u) ≡ 2 * cleared u
cleared-even zero = refl
cleared-even (suc v) =
    let a : 2 * suc v / 2 ≡ suc v = omega arith in
    let b : (2 * suc v - 1) / 2 ≡ suc v - 1 = omega arith in
    let c : min (2 * suc v % 2) ((2 * suc v - 1) % 2) ≡ 0 = omega arith in
    and_step (2 * suc v) (2 * suc v - 1) ∙ ap₂ (λ (x y : ℕ). x * 2 + y) (ap₂ bit_and a b) c ∙ double (cleared (suc v))
  where
    double : (x : ℕ) → x * 2 + 0 ≡ 2 * x
    double x = omega arith

-- clearing the lowest bit of t takes off the largest power of two that divides it
pub dyadic-clears : (t : ℕ) → bit_and t (t - 1) ≡ dyadic t
dyadic-clears = halves-same cleared dyadic (record { odd = cleared-odd; even = cleared-even }) dyadic-halves

-- 2 ^ j is the largest power of two that divides t, and t is b + 2 ^ j
abbrev TakesOff : ℕ → ℕ → ℕ → Type 0
TakesOff t b j = (t ≡ b + 2 ^ j) × (t % 2 ^ j ≡ 0) × ((i : ℕ) → t % 2 ^ i ≡ 0 → i ≤ j)

takes-odd : (u : ℕ) → TakesOff (2 * u + 1) (2 * u) 0
takes-odd u = (refl, mod-one (2 * u + 1), largest)
  where
    largest : (i : ℕ) → (2 * u + 1) % 2 ^ i ≡ 0 → i ≤ 0
    largest zero e = le_refl 0
    largest (suc i) e = absurd (odd-rest i u e)

takes-even : (u b j : ℕ) → TakesOff u b j → TakesOff (2 * u) (2 * b) (suc j)
takes-even u b j h =
    (omega (arith, h.0, pow-succ' 2 j), even-rest j u ∙ ap (λ (x : ℕ). 2 * x) h.1, largest)
  where
    largest : (i : ℕ) → 2 * u % 2 ^ i ≡ 0 → i ≤ suc j
    largest zero _ = zero-le
    largest (suc i) z = suc-le-suc (h.2 i (omega (arith, even-rest i u)))

takes_at : (t u b j : ℕ) → t ≡ u → dyadic u ≡ b → TakesOff u b j → TakesOff t (dyadic t) j
takes_at t u b j e f h = subst⁻¹ (λ (x : ℕ). TakesOff x (dyadic x) j) e (subst⁻¹ (λ (x : ℕ). TakesOff u x j) f h)

takes_in : (m t : ℕ) → t ≤ m → 1 ≤ t → (j : ℕ) × TakesOff t (dyadic t) j
takes_in zero t a l = absurd (not-suc-le-zero (le_trans l a))
takes_in (suc m) t a l =
    ⊎_elim
    (λ (e : t ≡ 2 * (t / 2)).
    let half : (j : ℕ) × TakesOff (t / 2) (dyadic (t / 2)) j = takes_in m (t / 2) (omega arith) (omega arith) in
    (suc half.0, takes_at t (2 * (t / 2)) (2 * dyadic (t / 2)) (suc half.0) e (dyadic-even (t / 2)) (takes-even (t / 2) (dyadic (t / 2)) half.0 half.1)))
    (λ (e : t ≡ 2 * (t / 2) + 1). (0, takes_at t (2 * (t / 2) + 1) (2 * (t / 2)) 0 e (dyadic-odd (t / 2)) (takes-odd (t / 2))))
    (parity t)

pub dyadic-takes : (t : ℕ) → 1 ≤ t → (j : ℕ) × (t ≡ dyadic t + 2 ^ j) × (t % 2 ^ j ≡ 0) × ((i : ℕ) → t % 2 ^ i ≡ 0 → i ≤ j)
dyadic-takes t l = let h : (j : ℕ) × TakesOff t (dyadic t) j = takes_in t t (le_refl t) l in (h.0, h.1.0, h.1.1, h.1.2)

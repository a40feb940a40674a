-- Numbers and their little-endian bytes, there and back.
use Rattle.std.proofs.Common.{◌≡◌, ℕ, zero, suc, ◌*◌, ◌/◌, ◌^◌, ◌<◌, List, [], ◌∷◌, ◌++◌, length, sym, refl, ap, suc-mul, zero-mul, arith}
use native.Mathlib.Nat.{pow-succ'}
use Rattle.std.specs.List.{AllByRecursion}
use Rattle.std.proofs.lemmas.List.{length-append, append_assoc, take_at, drop_at}
use Rattle.record.specs.Little.{value, little, numbers, spread}

pub length-little : (k n : ℕ) → length (little k n) ≡ k
length-little zero n = refl
length-little (suc k) n = ap suc (length-little k (n / 256))

pub value-little : (k n : ℕ) → n < 256 ^ k → value (little k n) ≡ n
value-little zero n h = omega arith
value-little (suc k) n h =
    let p = pow-succ' 256 k in
    let l : n / 256 < 256 ^ k = omega arith in
    let e : value (little k (n / 256)) ≡ n / 256 = value-little k (n / 256) l in
    omega arith

pub length-spread : (w : ℕ) (ns : List ℕ) → length (spread w ns) ≡ length ns * w
length-spread w [] = sym (zero-mul w)
length-spread w (n ∷ ns) =
    let e = length-spread w ns in
    let f = length-little w n in
    simp length-append (omega (arith, suc-mul (length ns) w))

pub numbers-spread : (w : ℕ) (ns tail : List ℕ) → AllByRecursion (λ n. n < 256 ^ w) ns → numbers w (length ns) (spread w ns ++ tail) ≡ ns
numbers-spread w [] tail all = refl
numbers-spread w (n ∷ ns) tail (h, hs) =
    let l = length-little w n in
    let a = append_assoc (little w n) (spread w ns) tail in
    rw (a, take_at (little w n) (spread w ns ++ tail) w l, drop_at (little w n) (spread w ns ++ tail) w l, value-little w n h, numbers-spread w ns tail hs)

-- Bytes in fours and in eights: the first cell and those after it, how many there are, and the one bits of eight bytes.
use Rattle.std.proofs.Common.{◌≡◌, ℕ, zero, suc, ◌+◌, ◌*◌, ◌/◌, ◌%◌, ◌^◌, ◌<◌, ◌≤◌, List, [], ◌∷◌, length, get_or, drop, pos, ◌-ℤ◌, sym, refl, ap, ◌∙◌, pow-suc, arith, w32, to_z}
use lib.Count.{ones, ones_in, ones_step, ones_cat, ones-le}
use Rattle.std.proofs.lemmas.Int.{to_z_pos}
use Rattle.tape.specs.Tapes.{byte_cells, coins, cell_of_coins, coin_cells}

pub length-byte-cells : (xs : List ℕ) → length xs / 4 ≡ length (byte_cells xs)
length-byte-cells [] = refl
length-byte-cells (a ∷ []) = refl
length-byte-cells (a ∷ b ∷ []) = refl
length-byte-cells (a ∷ b ∷ c ∷ []) = refl
length-byte-cells (a ∷ b ∷ c ∷ d ∷ more) =
    let next : length more / 4 ≡ length (byte_cells more) = length-byte-cells more in
    omega arith

pub coin-cells-some : (xs : List ℕ) → 8 ≤ length xs → coin_cells xs ≡ cell_of_coins (get_or xs 0 0) (get_or xs 1 0) (get_or xs 2 0) (get_or xs 3 0) (get_or xs 4 0) (get_or xs 5 0) (get_or xs 6 0) (get_or xs 7 0) ∷ coin_cells (drop 8 xs)
coin-cells-some [] h = absurd (omega arith)
coin-cells-some (a ∷ []) h = absurd (omega arith)
coin-cells-some (a ∷ b ∷ []) h = absurd (omega arith)
coin-cells-some (a ∷ b ∷ c ∷ []) h = absurd (omega arith)
coin-cells-some (a ∷ b ∷ c ∷ d ∷ []) h = absurd (omega arith)
coin-cells-some (a ∷ b ∷ c ∷ d ∷ e ∷ []) h = absurd (omega arith)
coin-cells-some (a ∷ b ∷ c ∷ d ∷ e ∷ f ∷ []) h = absurd (omega arith)
coin-cells-some (a ∷ b ∷ c ∷ d ∷ e ∷ f ∷ g ∷ []) h = absurd (omega arith)
coin-cells-some (a ∷ b ∷ c ∷ d ∷ e ∷ f ∷ g ∷ z ∷ more) h = refl

pub length-coin-cells : (xs : List ℕ) → length xs / 8 ≡ length (coin_cells xs)
length-coin-cells [] = refl
length-coin-cells (a ∷ []) = refl
length-coin-cells (a ∷ b ∷ []) = refl
length-coin-cells (a ∷ b ∷ c ∷ []) = refl
length-coin-cells (a ∷ b ∷ c ∷ d ∷ []) = refl
length-coin-cells (a ∷ b ∷ c ∷ d ∷ e ∷ []) = refl
length-coin-cells (a ∷ b ∷ c ∷ d ∷ e ∷ f ∷ []) = refl
length-coin-cells (a ∷ b ∷ c ∷ d ∷ e ∷ f ∷ g ∷ []) = refl
length-coin-cells (a ∷ b ∷ c ∷ d ∷ e ∷ f ∷ g ∷ h ∷ more) =
    let next : length more / 8 ≡ length (coin_cells more) = length-coin-cells more in
    omega arith

-- a number of k digits has all its one bits among its k lowest digits
low-coins : (k n : ℕ) → n < 2 ^ k → ones_in k n ≡ ones n
unfolding ones_in ones
low-coins zero n h = let none : n ≡ 0 = omega arith in rw none
low-coins (suc k) n h =
    let half : n / 2 < 2 ^ k = omega (arith, pow-suc 2 k) in
    ap (λ x. n % 2 + x) (low-coins k (n / 2) half) ∙ sym (ones_step n)

two-coins : (high low : ℕ) → low < 256 → ones (high * 256 + low) ≡ ones high + coins low
two-coins high low h = ones_cat 8 high low h ∙ ap (λ x. ones high + x) (sym (low-coins 8 low h))

-- a number of eight bytes has the one bits of its bytes
pub eight-coins : (a b c d e f g h : ℕ) → a < 256 → b < 256 → c < 256 → d < 256 → e < 256 → f < 256 → g < 256 → h < 256 → ones (a + b * 256 + c * 65536 + d * 16777216 + e * 4294967296 + f * 1099511627776 + g * 281474976710656 + h * 72057594037927936) ≡ coins a + coins b + coins c + coins d + coins e + coins f + coins g + coins h
eight-coins a b c d e f g h ha hb hc hd he hf hg hh =
    let p7 : ℕ = h * 256 + g in
    let p6 : ℕ = p7 * 256 + f in
    let p5 : ℕ = p6 * 256 + e in
    let p4 : ℕ = p5 * 256 + d in
    let p3 : ℕ = p4 * 256 + c in
    let p2 : ℕ = p3 * 256 + b in
    let whole : a + b * 256 + c * 65536 + d * 16777216 + e * 4294967296 + f * 1099511627776 + g * 281474976710656 + h * 72057594037927936 ≡ p2 * 256 + a = omega arith in
    ap ones whole ∙ omega (arith, two-coins p2 a ha, two-coins p3 b hb, two-coins p4 c hc, two-coins p5 d hd, two-coins p6 e he, two-coins p7 f hf, two-coins h g hg, low-coins 8 h hh)

-- a coin cell as the code computes it, through 32 bits
pub less-32 : (n : ℕ) → n < 2 ^ 64 → to_z w32 (ones n) -ℤ pos 32 ≡ pos (ones n) -ℤ pos 32
less-32 n h = ap (λ z. z -ℤ pos 32) (to_z_pos w32 (ones n) (omega (arith, ones-le 64 n h)))

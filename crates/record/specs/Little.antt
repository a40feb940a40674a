-- Little-endian numbers.
use Rattle.std.specs.Prelude.{ℕ, zero, suc, ◌+◌, ◌*◌, ◌/◌, ◌%◌, List, [], ◌∷◌, ◌++◌, take, drop}

-- the number that bytes write, the lowest byte first
abbrev pub value : List ℕ → ℕ
value [] = 0
value (b ∷ bs) = b + 256 * value bs

-- the k lowest bytes of a number, the lowest first
abbrev pub little : ℕ → ℕ → List ℕ
little zero n = []
little (suc k) n = n % 256 ∷ little k (n / 256)

-- the number in the w bytes from place i on
abbrev pub field : ℕ → ℕ → List ℕ → ℕ
field i w bs = value (take w (drop i bs))

-- the first k numbers of w bytes each
abbrev pub numbers : ℕ → ℕ → List ℕ → List ℕ
numbers w zero bs = []
numbers w (suc k) bs = value (take w bs) ∷ numbers w k (drop w bs)

-- numbers, w bytes each, one after the other
abbrev pub spread : ℕ → List ℕ → List ℕ
spread w [] = []
spread w (n ∷ ns) = little w n ++ spread w ns

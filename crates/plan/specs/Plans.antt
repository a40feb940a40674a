-- A plan names an earlier point for every step t up to the horizon, its back step p t, which is below t. The steps
-- after p t and up to t are part t.
-- The cover of t is the parts that together hold the steps 1 to t: part t, and the cover of p t.
use Rattle.std.specs.Prelude.{◌≡◌, ℕ, zero, suc, ◌+◌, ◌<◌, ◌≤◌, max, cond, List, [], ◌∷◌, length, nat_le, nat_lt}

-- the last step that a plan speaks of
abbrev pub horizon : ℕ
horizon = 1024

-- every back step from 1 to n lies below its step
abbrev pub FallsTo : ℕ → (ℕ → ℕ) → Type 0
FallsTo n p = (t : ℕ) → 1 ≤ t → t ≤ n → p t < t

abbrev pub Falls : (ℕ → ℕ) → Type 0
Falls = FallsTo horizon

-- the same back steps from 1 to n
abbrev pub AgreeTo : ℕ → (ℕ → ℕ) → (ℕ → ℕ) → Type 0
AgreeTo n p q = (t : ℕ) → 1 ≤ t → t ≤ n → p t ≡ q t

-- f 1 + .. + f k
unfoldable pub total : (ℕ → ℕ) → ℕ → ℕ
total f zero = 0
total f (suc k) = total f k + f (suc k)

-- the greatest of f 1 .. f k, and 0 for k = 0
unfoldable pub greatest : (ℕ → ℕ) → ℕ → ℕ
greatest f zero = 0
greatest f (suc k) = max (greatest f k) (f (suc k))

-- 1 where part t holds step s, else 0
unfoldable pub holds : (ℕ → ℕ) → ℕ → ℕ → ℕ
holds p t s = cond (nat_lt (p t) s) (cond (nat_le s t) 1 0) 0

-- how many of the parts 1 to k hold step s
unfoldable pub holding : (ℕ → ℕ) → ℕ → ℕ → ℕ
holding p k s = total (λ t. holds p t s) k

-- the steps whose parts are the cover of t, newest first: t, p t, p (p t), .. down to 0, at most n of them
unfoldable pub cover_in : (ℕ → ℕ) → ℕ → ℕ → List ℕ
cover_in p zero t = []
cover_in p (suc n) zero = []
cover_in p (suc n) (suc t) = suc t ∷ cover_in p n (p (suc t))

unfoldable pub cover : (ℕ → ℕ) → ℕ → List ℕ
cover p t = cover_in p t t

-- how deep the parts 1 to k lie over one another: how many of them hold the step that most of them hold
unfoldable pub depth : (ℕ → ℕ) → ℕ → ℕ
depth p k = greatest (holding p k) k

-- how many parts lie side by side in the longest cover among the steps up to k
unfoldable pub breadth : (ℕ → ℕ) → ℕ → ℕ
breadth p k = greatest (λ t. length (cover p t)) k

-- A plan answers 0 beyond the horizon, and for the back step of step 0.
abbrev pub within : ℕ → ℕ → ℕ
within k answer = cond (nat_le k horizon) answer 0

abbrev pub back_asked : (ℕ → ℕ) → ℕ → ℕ
back_asked p t = cond (nat_le 1 t) (within t (p t)) 0

abbrev pub depth_asked : (ℕ → ℕ) → ℕ → ℕ
depth_asked p k = within k (depth p k)

abbrev pub breadth_asked : (ℕ → ℕ) → ℕ → ℕ
breadth_asked p k = within k (breadth p k)

abbrev pub cover_asked : (ℕ → ℕ) → ℕ → List ℕ
cover_asked p t = cond (nat_le t horizon) (cover p t) []

-- Worked examples.
use Rattle.std.specs.Prelude.{◌≡◌, [], ◌∷◌}
use Rattle.plan.specs.Plans.{cover, depth, breadth}
use Rattle.plan.specs.Known.{single, dyadic}

abbrev pub Examples : Type 0
Examples =
    (dyadic 6 ≡ 4) × (dyadic 8 ≡ 0) × (cover dyadic 7 ≡ 7 ∷ 6 ∷ 4 ∷ [])
    × (depth dyadic 7 ≡ 3) × (depth dyadic 8 ≡ 4)
    × (breadth dyadic 6 ≡ 2) × (breadth dyadic 7 ≡ 3) × (breadth single 7 ≡ 7)

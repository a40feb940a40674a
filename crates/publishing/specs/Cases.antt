-- The worked publication, by the definition of the whole.
use Rattle.std.specs.Prelude.{◌≡◌}
use Rattle.publishing.specs.Whole.{publication}
use Rattle.publishing.specs.Examples.{events, tape, output}

pub record WorkedWhole : Type 0 where
  pub bytes : publication events tape 65536 ≡ output

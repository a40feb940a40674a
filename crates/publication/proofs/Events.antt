-- Kinds that no event has.
use Rattle.std.proofs.Common.{◌≡◌, ℕ, false, arith}
use Rattle.std.proofs.lemmas.Bool.Decides.{nat_tests}
use Rattle.publication.specs.declared.event.Stage.{Stage}
use Rattle.publication.specs.declared.event.Stage.TheVariants.{First, Later}
use Rattle.publication.specs.Events.{allowed}

-- no kind of an event
pub never-allowed : (stage : Stage) (n : ℕ) → (1 ≡ n → ⊥) → (2 ≡ n → ⊥) → (3 ≡ n → ⊥) → (4 ≡ n → ⊥) → false ≡ allowed stage n
never-allowed First n a b c d = grind (arith, nat_tests)
never-allowed Later n a b c d = grind (arith, nat_tests)

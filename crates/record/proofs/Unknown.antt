-- A number that is no kind's.
use Rattle.std.proofs.Common.{◌≡◌, ℕ, false, eqb, List, arith}
use Rattle.std.specs.Prelude.{◌≢◌}
use Rattle.std.proofs.lemmas.Bool.Decides.{nat_tests}
use Rattle.record.specs.declared.kinds.Kind.{Kind}
use Rattle.record.specs.declared.kinds.Kind.TheVariants.{SetUp, Open, Step, Close, Opened, Published, Closed, Refused, End}
use Rattle.record.specs.Numbered.{number_of_kind}
use Rattle.record.specs.Reads.{decode, refusal}

other : (n k : ℕ) → k ≢ n → eqb n k ≡ false
other n k h = grind (arith, nat_tests)

pub decode-unknown : (n : ℕ) (b : List ℕ) → ((kind : Kind) → number_of_kind kind ≢ n) → decode n b ≡ refusal 17 n
decode-unknown n b h =
    rw (other n 1 (h SetUp), other n 2 (h Open), other n 3 (h Step), other n 4 (h Close), other n 33 (h Opened), other n 34 (h Published), other n 35 (h Closed), other n 36 (h Refused), other n 37 (h End))

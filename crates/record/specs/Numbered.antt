-- The kinds of the code, by their numbers.
use Rattle.std.specs.Prelude.{◌≡◌, ◌≢◌, ℕ, Result, MatchResult}
use Rattle.fault.specs.declared.Cause.TheVariants.{KindNotAllowed}
use Rattle.fault.specs.declared.Layer.TheVariants.{Record}
use Rattle.fault.specs.declared.Fault.{Fault}
use Rattle.record.specs.declared.kinds.Kind.{Kind}
use Rattle.record.specs.declared.kinds.Kind.TheVariants.{SetUp, Open, Step, Close, Opened, Published, Closed, Refused, End}

abbrev pub number_of_kind : Kind → ℕ
number_of_kind SetUp = 1
number_of_kind Open = 2
number_of_kind Step = 3
number_of_kind Close = 4
number_of_kind Opened = 33
number_of_kind Published = 34
number_of_kind Closed = 35
number_of_kind Refused = 36
number_of_kind End = 37

-- the kind with a number; another number is refused
abbrev pub IsKindOf : ℕ → Result Kind Fault → Type 0
IsKindOf n r = MatchResult r (λ kind. number_of_kind kind ≡ n) (λ fault. (fault ≡ record { cause = KindNotAllowed n; layer = Record }) × ((kind : Kind) → number_of_kind kind ≢ n))

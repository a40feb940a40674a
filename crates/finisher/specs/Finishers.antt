-- What a finisher means: what it says, and where it stands.
use Rattle.std.specs.Prelude.{◌≡◌, ℕ, ◌+◌, ◌^◌, ◌<◌, ◌≤◌, cond, ◌↔◌, List, [], ◌∷◌, ◌++◌, ℤ, pos, ◌+ℤ◌, ◌≤ℤ◌, Ok, Err, Result, ◌≢◌, nat_lt}
use Rattle.std.specs.Int.{w64}
use Rattle.std.proofs.Common.{SFits}
use Rattle.std.specs.List.{AllByRecursion}
use Rattle.fault.specs.declared.Fault.{Fault}
use Rattle.fault.specs.declared.Cause.TheVariants.{NoSuchClass}
use Rattle.fault.specs.declared.Layer.TheVariants.{Finisher}

-- the number of classes
abbrev pub class_limit : ℕ
class_limit = 8

-- the most that an error bound or a true count can be
abbrev pub count_limit : ℕ
count_limit = 2 ^ 62

-- a call that is not refused; a finish has its class and its release
pub data Call : Type 0 where
  begins : Call
  finishes : ℕ → ℤ → Call

-- what a finish would answer to a class and a release, after further calls, oldest first
abbrev pub Says : Type 0
Says = List Call → ℕ → ℤ → ℤ

-- what holds once a call was made
abbrev pub after {ℓ} : {A : Type ℓ} → Call → (List Call → A) → List Call → A
after call means = λ calls. means (call ∷ calls)

-- the answer to a finish
abbrev pub finished : Says → ℕ → ℤ → Result ℤ Fault
finished says class release =
    cond (nat_lt class class_limit) (Ok (says [] class release)) (Err (record { cause = NoSuchClass class; layer = Finisher }))

-- calls that can be made and are not refused
abbrev pub LawfulCall : Call → Type 0
LawfulCall begins = Unit {0}
LawfulCall (finishes class release) = (class < class_limit) × SFits w64 release

abbrev pub Lawful : List Call → Type 0
Lawful calls = AllByRecursion LawfulCall calls

-- alike in meaning: the same is said after all lawful calls
abbrev pub Alike : Says → Says → Type 0
Alike one other =
    (calls : List Call) (class : ℕ) (release : ℤ)
    → Lawful calls → LawfulCall (finishes class release) → one calls class release ≡ other calls class release

-- a number is at most `error` away from a true count
abbrev pub Within : ℕ → ℤ → ℕ → Type 0
Within error z count = (z ≤ℤ pos (count + error)) × (pos count ≤ℤ (z +ℤ pos error))

-- the error bounds and true counts at which a class stands, after further calls, oldest first
abbrev pub Stands : Type 1
Stands = List Call → ℕ → ℕ → ℕ → Type 0

-- after begin every class stands at each bound, with a true count of 0
abbrev pub Fresh : Stands → Type 0
Fresh stands =
    (calls : List Call) (class error : ℕ)
    → Lawful calls → class < class_limit → error ≤ count_limit → stands (calls ++ begins ∷ []) class error 0

-- a release near a true count that has not fallen is answered by a number as near, and the class stands there then
abbrev pub Near : Says → Stands → Type 0
Near says stands =
    (calls : List Call) (class : ℕ) (release : ℤ) (error old new : ℕ)
    → Lawful calls → LawfulCall (finishes class release)
    → stands calls class error old → old ≤ new → new ≤ count_limit → error ≤ count_limit → Within error release new
    → Within error (says calls class release) new × stands (calls ++ finishes class release ∷ []) class error new

-- a finish leaves the other classes where they stood
abbrev pub Others : Stands → Type 0
Others stands =
    (calls : List Call) (class : ℕ) (release : ℤ) (other error count : ℕ)
    → Lawful calls → LawfulCall (finishes class release) → (other ≢ class)
    → stands calls other error count ↔ stands (calls ++ finishes class release ∷ []) other error count

-- the same places, after all further calls
abbrev pub Same : Stands → Stands → Type 0
Same one other = (calls : List Call) (class error count : ℕ) → one calls class error count ↔ other calls class error count

-- what every finisher keeps
pub record Keeps (says : Says) (stands : Stands) : Type 0 where
  pub fresh : Fresh stands
  pub near : Near says stands
  pub others : Others stands

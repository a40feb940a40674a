-- What a station's answer says of the refusal of a call.
use Rattle.std.proofs.Common.{◌≡◌, ℕ, ◌<◌, ℤ, Some, None, Ok, Err, Option, Result, ap, ◌∙◌, arith}
use Rattle.std.proofs.lemmas.Bool.Decides.{nat_tests}
use Rattle.fault.specs.declared.Fault.{Fault}
use Rattle.fault.specs.Told.{Told}
use Rattle.station.specs.Answers.{read_as}
use Rattle.runs.specs.Model as station

told-by : (r : Option Told) (s : station.Station) (call : station.Call) (t : Told) → station.refused t ≡ station.answer_by r s call → r ≡ Some t
told-by (Some u) s call t e = cc
told-by None s (station.opens epoch) t e = let z : ◌≡◌ {A = ℕ} 0 1 = cc in absurd (omega arith)
told-by None s (station.steps row) t e = let z : ◌≡◌ {A = ℕ} 0 1 = cc in absurd (omega arith)
told-by None s (station.closes number serial) t e = let z : ◌≡◌ {A = ℕ} 0 1 = cc in absurd (omega arith)
told-by None s (station.reads class) t e = let z : ◌≡◌ {A = ℕ} 0 1 = cc in absurd (omega arith)
told-by None s station.balances t e = let z : ◌≡◌ {A = ℕ} 0 1 = cc in absurd (omega arith)

-- a refusing answer tells the refusal
pub refusal-told : (s : station.Station) (call : station.Call) (t : Told) → station.refused t ≡ station.answer s call → station.refusal s call ≡ Some t
refusal-told s call t e = told-by (station.refusal s call) s call t e

-- a read of a class after a step
ok-by : (r : Result ℤ Fault) (z : ℤ) → read_as r ≡ station.published z → r ≡ Ok z
ok-by (Ok x) z e = cc
ok-by (Err f) z e = let w : ◌≡◌ {A = ℕ} 0 1 = cc in absurd (omega arith)

pub read-ok : (s : station.Station) (class : ℕ) (r : Result ℤ Fault) → class < s.setting.classes → 0 < s.steps
    → read_as r ≡ station.answer s (station.reads class) → r ≡ Ok (station.lane_at s class).published
read-ok s class r known stepped e =
    let none : station.refusal s (station.reads class) ≡ None = grind (arith, nat_tests) in
    ok-by r (station.lane_at s class).published (e ∙ ap (λ (o : Option Told). station.answer_by o s (station.reads class)) none)

pub same-ok : (r : Result ℤ Fault) (y z : ℤ) → r ≡ Ok y → r ≡ Ok z → y ≡ z
same-ok r y z p q = cc

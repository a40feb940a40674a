use Rattle.std.proofs.Common.{◌≡◌, ◌<◌, length, get_or, set, pos, Ok, sym, ap, ◌∙◌, ap₂, arith, w64, SFits, to_z, of_z, rules}
use Rattle.std.proofs.lemmas.Int.{to_z-of_z}
use Rattle.std.specs.Int.{int_max}
use Rattle.finisher.specs.Kinds.{raised, rising}
use Rattle.finisher.specs.Nearness.{accepted, answered, same-near}
use Rattle.finisher.proofs.RisingFinisher.finish.Goals as goal

pub returns : goal.returns
returns g c =
    let fits : SFits w64 c.args.release = search rules in
    let fits-top : SFits w64 c.max-top.result = search rules in
    let said = simp to_z-of_z at c.finish.ensures.answer in
    let said-now = simp to_z-of_z at c.finish.ensures.moved in
    let stood-now = simp to_z-of_z at c.finish.ensures.stood in
    let top : c.max-top.result ≡ int_max c.in_ok-answer.answer (get_or c.args.self.now.held c.args.class (pos 0)) =
    search (rules, to_z-of_z) in
    let below = g.F.Finisher.says c.args.self.now.below in
    let held = c.args.self.now.held in
    let class = c.args.class in
    let release = c.args.release in
    let ok = accepted below class release c.in_ok-answer.answer (sym c.in_ok-answer.was ∙ said) in
    let lt : class < length held = search rules in
    let is : to_z w64 (of_z w64 c.max-top.result) ≡ raised below held class release =
    to_z-of_z w64 c.max-top.result fits-top ∙ top ∙ ap (λ z. int_max z (get_or held class (pos 0))) ok.1 in
    record {
      answer = ap Ok is ∙ answered (rising below held) class release ok.0;
      moved = λ h. ap₂ rising (said-now h) (ap (set held class) is);
      stood = λ h. same-near (said-now h) (stood-now h) (ap (set held class) is);
      refused = λ h. absurd (omega (arith, ok.0));
    }

use Rattle.std.proofs.Common.{◌≡◌, suc, ◌+◌, ◌-◌, ℤ, pos, Result, sym, ap, ◌∙◌, arith, w32, SFits, rules}
use lib.Seq.{take-nil}
use Rattle.std.specs.Result.{result_unwrap_or}
use Rattle.std.proofs.lemmas.Int.{to_z-of_z}
use Rattle.fault.specs.declared.Fault.{Fault}
use Rattle.tape.specs.Tapes.{drawn}
use Rattle.bounds.proofs.Greatest.{draw-size, draw-rest, covered-by, none-left}
use Rattle.bounds.proofs.Bound.draw.Goals as goal

pub loop-preserved : goal.loop-preserved
loop-preserved g c =
    let left = g.T.Tape.cells c.loop.tape in
    let k = c.args.count - (c.loop.counter + 1) in
    let fewer : c.args.count - c.loop.counter ≡ suc (c.args.count - (c.loop.counter + 1)) = omega arith in
    let small : SFits w32 c.in-Ok.cell = search rules in
    let fits = to_z-of_z w32 c.in-Ok.cell small in
    let cell : c.in-Ok.cell ≡ result_unwrap_or (drawn (g.T.Tape.cells c.loop.tape)) (pos 0) =
    ap (λ (r : Result ℤ Fault). result_unwrap_or r (pos 0)) (sym c.in-Ok.is ∙ c.draw.ensures.answer) in
    let size = draw-size c.loop.self.largest k left in
    let rest = draw-rest k left in
    (cc, cc)

pub returns-after-loop-clause-covers : goal.returns-after-loop-clause-covers
returns-after-loop-clause-covers g c =
    let none : c.args.count - c.loop.counter ≡ 0 = omega arith in
    let so_far = rw none at c.loop.invariant in
    covered-by _ _ _ so_far.0

pub returns-in_default-clause-covers : goal.returns-in_default-clause-covers
returns-in_default-clause-covers g c =
    let so_far = rw (none-left _ _ (sym c.in_default.is ∙ c.draw.ensures.answer), take-nil {A = ℤ}) at c.loop.invariant.0 in
    covered-by _ _ _ so_far

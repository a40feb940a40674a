use Rattle.std.proofs.Common.{◌+◌, ◌≤◌, arith, sym, ◌∙◌, w32, SFits, rules}
use Rattle.std.proofs.Math.Seq.{take-length}
use Rattle.std.proofs.lemmas.Int.{to_z-of_z}
use Rattle.plan.specs.Plans.{horizon}
use Rattle.sketch.proofs.Noises.{noise-laws}
use Rattle.sketch.proofs.Turns.{HasDrawn, drawn-nil, drawn_ends, earlier, noise-fits, drawn_on}
use Rattle.sketch.proofs.course_of.Goals as goal

pub loop-number-init : goal.loop-number-init
loop-number-init g c = rw c.new-course.ensures (omega arith, drawn-nil _ _)

pub push-requires : goal.push-requires
push-requires g c =
    let p = g.P.Plan.back c.args.plan.now in
    let cells = g.T.Tape.cells c.args.tape.now in
    let falls = g.met.P.Plan.falls c.args.plan.now in
    let so_far = c.loop-number.invariant.1 in
    let counted = so_far.counted in
    let high : c.loop-number.number ≤ horizon = omega arith in
    let back = earlier p cells _ _ _ so_far falls high _ c.back_step.ensures in
    record {
      room = omega arith;
      earlier = back;
      small = noise-fits p cells _ c.loop-number.course.steps.items (take-length c.loop-number.course.steps.items ∙ so_far.steps_are) (g.T.Tape.narrow c.args.tape.now) (omega arith) _ back;
    }

pub loop-number-preserved : goal.loop-number-preserved
loop-number-preserved g c =
    let falls = g.met.P.Plan.falls c.args.plan.now in
    let high : c.loop-number.number ≤ horizon = omega arith in
    let fits : SFits w32 c.in-Ok.cell = search rules in (
      omega arith,
      drawn_on _ _ _ _ _ c.loop-number.invariant.1 falls high _ c.back_step.ensures _ _ _ _ (sym c.in-Ok.is ∙ c.draw.ensures.answer) c.draw.ensures.moved
          (to_z-of_z w32 _ fits) c.push.ensures,
    )

pub returns-in-Ok : goal.returns-in-Ok
returns-in-Ok g c =
    let falls = g.met.P.Plan.falls c.args.plan.now in
    let high : c.loop-number.number ≤ horizon = omega arith in
    let fits : SFits w32 c.in-Ok.cell = search rules in
    let all : HasDrawn (g.P.Plan.back c.args.plan.now) (g.T.Tape.cells c.args.tape.now) (c.loop-number.number + 1) c.push.new.self.steps.items (g.T.Tape.cells c.draw.new.self) =
    drawn_on _ _ _ _ _ c.loop-number.invariant.1 falls high _ c.back_step.ensures _ _ _ _ (sym c.in-Ok.is ∙ c.draw.ensures.answer) c.draw.ensures.moved
    (to_z-of_z w32 _ fits) c.push.ensures in
    let counted = all.counted in
    let few = all.few in
    record { count = omega arith; steps = all.steps_are; tape = all.left_is; laws = noise-laws _ _ falls }

pub returns-in_default : goal.returns-in_default
returns-in_default g c =
    let so_far = c.loop-number.invariant.1 in
    let ends = drawn_ends _ _ _ _ _ so_far c.in_default.field-0 (sym c.in_default.is ∙ c.draw.ensures.answer) in
    let counted = so_far.counted in
    record { count = omega arith; steps = so_far.steps_are; tape = c.draw.ensures.moved ∙ ends.1; laws = noise-laws _ _ (g.met.P.Plan.falls c.args.plan.now) }

pub returns : goal.returns
returns g c =
    let so_far = c.loop-number.invariant.1 in
    let counted = so_far.counted in
    let few = so_far.few in
    record { count = omega arith; steps = so_far.steps_are; tape = so_far.left_is; laws = noise-laws _ _ (g.met.P.Plan.falls c.args.plan.now) }

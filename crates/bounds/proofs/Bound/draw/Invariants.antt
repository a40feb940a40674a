use Rattle.std.proofs.Common.{◌≡◌, ◌-◌, take, drop}
use Rattle.bounds.specs.Sizes.{greatest}
use Rattle.bounds.proofs.Bound.draw.Given as goal

abbrev pub invariant-loop : goal.invariant-loop
invariant-loop g l =
    let cells = g.T.Tape.cells l.initial.tape in
    let left = g.T.Tape.cells l.tape in
    let more = l.count - l.counter in
    (greatest l.self.largest (take more left) ≡ greatest l.initial.self.largest (take l.count cells))
    × (drop more left ≡ drop l.count cells)

use Rattle.std.proofs.Common.{◌≡◌, ◌*◌, ◌+ℤ◌, arith, w64, to_z, of_z}
use Rattle.std.proofs.lemmas.Int.{ints}
use Rattle.runs.specs.Model.{noise_after}
use Rattle.station.proofs.Noises.{Within, noise-within, within-more}
use Rattle.station.proofs.table.Lane.advance.Goals as goal

pub invariant_of-self-clause-near : goal.invariant_of-self-clause-near
invariant_of-self-clause-near c =
    let sum : to_z w64 (of_z w64 (to_z w64 (of_z w64 c.from.result) +ℤ to_z w64 (of_z w64 c.noise_at-before.result))) ≡ c.args.cell +ℤ noise_after c.args.self.now.noise.items c.args.back =
    let w : Within (2147483648 * c.args.back) (noise_after c.args.self.now.noise.items c.args.back) = noise-within c.args.self.now.noise.items c.args.back c.args.self.now.near in
    omega (arith, ints) in
    rw c.push.ensures.items (within-more c.args.self.now.noise.items c.args.back c.args.cell _ c.requires.back c.ranges.cell sum c.args.self.now.near)

use Rattle.std.proofs.Common.{ℕ, ◌≡◌, ◌+◌, ◌≤◌, ◌<◌, List, ◌++◌, map, length, refl, ap, arith, w64, of_z}
use Rattle.std.proofs.ByRecursion.{All-from_get_or}
use Rattle.std.proofs.lemmas.List.{length-map}
use Rattle.record.specs.Little.{little, spread}
use Rattle.record.specs.Kinds.{bytes_of, published, tally_in}
use Rattle.record.proofs.Digits.{length-spread}
use Rattle.record.proofs.Bodies.{tally-fits}
use Rattle.record.proofs.Puts.{begun, framed, more}
use Rattle.record.proofs.Written.{wrote}
use Rattle.record.proofs.writer.put_published.Goals as goal

pub overflow_cast-body : goal.overflow_cast-body
overflow_cast-body c =
    let counts = c.in_ok-body.ensures in
    record { fits = omega (arith, ap length counts.0, length-spread 8 (map (of_z w64) (tally_in c.args.counts.now)), length-map (tally_in c.args.counts.now) (of_z w64)) }

pub overflow_add-body : goal.overflow_add-body
overflow_add-body c =
    let counts = c.in_ok-body.ensures in
    record { fits = omega (arith, ap length counts.0, length-spread 8 (map (of_z w64) (tally_in c.args.counts.now)), length-map (tally_in c.args.counts.now) (of_z w64)) }

pub returns : goal.returns
returns c =
    let counts = c.in_ok-body.ensures in
    let size = c.in_ok-size.ensures in
    let all = All-from_get_or (λ b. b < 256) c.args.counts.now 0 (λ i _. (c.type_inv.counts i).fits) in
    let tally = tally_in c.args.counts.now in
    let entry = published c.args.serial c.args.step tally in
    let body = c.in_ok-body.body.now in
    let fixed = little 4 c.args.serial ++ little 2 c.args.step in
    let long = ap length counts.0 in
    let room : length (bytes_of entry) ≤ length c.args.out.now = omega arith in
    let written : c.in_ok-size.size ≡ length (bytes_of entry) = omega arith in
    let head = begun {ys = little 2 (6 + length body) ++ little 2 34} size.2 in
    let serial = more 4 (little 4 c.args.serial) head c.store.ensures refl in
    let step = more 8 (little 2 c.args.step) serial c.store-2.ensures refl in
    let whole = more 10 body step c.put_bytes.ensures refl in
    wrote entry c.args.out.now counts.1 counts.2 room (c.ranges.serial.fits, c.ranges.step.fits, counts.1, counts.2, tally-fits c.args.counts.now all) written (framed 34 (6 + length body) (fixed ++ body) (fixed ++ spread 8 (map (of_z w64) tally)) (ap (λ (z : List ℕ). fixed ++ z) counts.0) (omega arith) whole)

use Rattle.std.proofs.Common.{◌≡◌, ◌≤◌, ◌<◌, ◌++◌, length, refl, ap, arith}
use Rattle.std.proofs.ByRecursion.{All-from_get_or}
use Rattle.record.specs.Little.{little, spread}
use Rattle.record.specs.Kinds.{bytes_of, row_in, stepping}
use Rattle.record.proofs.Digits.{length-spread}
use Rattle.record.proofs.Bodies.{row_fits}
use Rattle.record.proofs.Puts.{begun, framed, more}
use Rattle.record.proofs.Written.{wrote}
use Rattle.record.proofs.writer.put_step.Goals as goal

pub overflow_cast-body : goal.overflow_cast-body
overflow_cast-body c =
    let counts = c.in_ok-body.ensures in
    record { fits = omega (arith, ap length counts.0, length-spread 2 (row_in c.args.counts.now)) }

pub returns : goal.returns
returns c =
    let counts = c.in_ok-body.ensures in
    let size = c.in_ok-size.ensures in
    let all = All-from_get_or (λ b. b < 256) c.args.counts.now 0 (λ i _. (c.type_inv.counts i).fits) in
    let row = row_in c.args.counts.now in
    let body = c.in_ok-body.body.now in
    let long = ap length counts.0 in
    let room : length (bytes_of (stepping row)) ≤ length c.args.out.now = omega arith in
    let written : c.in_ok-size.size ≡ length (bytes_of (stepping row)) = omega arith in
    let head = begun {ys = little 2 (length body) ++ little 2 3} size.2 in
    let whole = more 4 body head c.put_bytes.ensures refl in
    wrote (stepping row) c.args.out.now counts.1 counts.2 room (counts.1, counts.2, row_fits c.args.counts.now all) written (framed 3 (length body) body (spread 2 row) counts.0 long whole)

use Rattle.std.proofs.Common.{◌<◌, rules}
use native.Mathlib.Nat.{sub-zero}
use Rattle.std.proofs.ByRecursion.{All-from_get_or}
use Rattle.record.proofs.writer.whole.Goals as goal

pub returns : goal.returns
returns g c =
    let all = All-from_get_or (λ b. b < 256) c.args.bytes.now 0 (λ i _. (c.type_inv.bytes i).fits) in
    let bytes = g.met.N.Count.whole_bytes c.args.bytes.now all in
    let many = g.met.N.Count.length_counts c.args.bytes.now in
    (search (rules, bytes, sub-zero), search (rules, many), search (rules, many))

use Rattle.std.proofs.Common.{◌<◌, length, sym, rules}
use Rattle.std.proofs.lemmas.Option.{slice_get_past}
use Rattle.record.proofs.Firsts.{nth-count}
use Rattle.record.proofs.counts.Counts.get.Goals as goal

pub returns-then-class-len : goal.returns-then-class-len
returns-then-class-len g c =
    let within : c.args.class < length (g.N.Count.counts_in c.args.self.now.bytes.now) = search rules in
    let nth = nth-count g.N.Number.SIZE g.N.Number.of_bits g.N.Count.counts_in g.met.N.Count.first_count c.args.self.now.bytes.now c.args.class within in
    search (rules, nth)

pub returns-else-class-len : goal.returns-else-class-len
returns-else-class-len g c =
    sym (slice_get_past (g.N.Count.counts_in c.args.self.now.bytes.now) c.args.class (search rules))

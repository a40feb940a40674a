use Rattle.std.proofs.Common.{◌≡◌, drop, Some, ap, rules}
use Rattle.std.proofs.lemmas.List.{take_rest}
use Rattle.record.proofs.Firsts.{first-got}
use Rattle.record.proofs.counts.RemainingIterator.next.Goals as goal

pub returns-clause-steps : goal.returns-clause-steps
returns-clause-steps g c =
    let got : c.get.result ≡ Some c.in_ok-first.first = search rules in
    let rest : c.new-self.result.bytes.now ≡ drop g.N.Number.SIZE c.args.self.now.counts.bytes.now = search (rules, take_rest) in
    first-got _ _ _ _ _ c.get.ensures got (ap g.N.Count.counts_in rest) (g.met.N.Count.first_count c.args.self.now.counts.bytes.now)

use Rattle.std.proofs.Common.{◌≡◌, [], ◌++◌, sym, ap, ◌∙◌, rules}
use Rattle.std.proofs.lemmas.List.{append-nil, take_all}
use Rattle.record.proofs.counts.Counts.first.Goals as goal

pub returns-in-None : goal.returns-in-None
returns-in-None g c =
    let inv = c.loop-count.invariant in
    let none : g.N.Count.counts_in c.loop-count.count-iterator.counts.bytes.now ≡ [] = search rules in
    let all : c.loop-count.counts.items ≡ g.N.Count.counts_in c.args.self.now.bytes.now =
    sym (append-nil c.loop-count.counts.items) ∙ ap (λ xs. c.loop-count.counts.items ++ xs) (sym none) ∙ inv.3 in
    search (rules, take_all)

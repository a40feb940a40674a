use Rattle.std.proofs.Common.{◌≡◌, ◌≤◌, ◌++◌, length}
use Rattle.record.proofs.counts.Counts.first.Given as goal

abbrev pub invariant-loop-count : goal.invariant-loop-count
invariant-loop-count g l =
    (goal.iterator-loop-count g).can_next l.count-iterator ×
    (goal.iterator-loop-count g).is_finite l.count-iterator ×
    (length l.counts.items ≤ g.row.CAP) ×
    (l.counts.items ++ g.N.Count.counts_in l.count-iterator.counts.bytes.now ≡ g.N.Count.counts_in l.self.bytes.now)

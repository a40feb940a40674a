use Rattle.std.proofs.Common.{◌≤◌, vec_len}
use Rattle.input.proofs.read_parts.Given as goal

abbrev pub invariant-loop : goal.invariant-loop
invariant-loop g l = vec_len l.bytes ≤ l.most

use Rattle.std.proofs.Common.{◌*◌, ◌≤◌}
use Rattle.compare.proofs.compare_all.Given as goal

abbrev pub invariant-loop-y : goal.invariant-loop-y
invariant-loop-y l = l.count ≤ 4096 * l.y

use Rattle.std.proofs.Common.{◌+◌, ◌≤◌}
use Rattle.totals.proofs.Progress.take_bytes.Given as goal

abbrev pub invariant-loop-b : goal.invariant-loop-b
invariant-loop-b l =
    (l.self.sums.blocks ≤ l.initial.self.sums.blocks + l.b-index) × (l.self.reader.line ≤ l.initial.self.reader.line + l.b-index)

use Rattle.std.proofs.Common.{◌-◌, ◌≤◌}
use Rattle.profile_text.proofs.number.Decimal.least_from.Given as goal

abbrev pub invariant-loop-low : goal.invariant-loop-low
invariant-loop-low l = (l.low ≤ l.high) × (l.high ≤ 9999999)

abbrev pub decreases-loop-low : goal.decreases-loop-low
decreases-loop-low l = l.high - l.low

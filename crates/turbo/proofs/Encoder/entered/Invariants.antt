-- `entered` puts the two encoders' bits in place: before turn i, i of each.
use Prim.Native.Nat.{◌≤◌}
use Rattle.rules.specs.Bits.{row}
use Rattle.rules.specs.Slots.{second}
use Rattle.laws.specs.Holds.{Holds}
use Rattle.turbo.specs.Within.{within}
use Rattle.turbo.proofs.Encoder.entered.Given as goal

abbrev pub invariant-loop-i : goal.invariant-loop-i
invariant-loop-i l = (l.i ≤ 994) × Holds 0 3988 (within 0 l.i (row l.x) (within 1994 l.i (second (row l.x)) (λ k. 0))) l.s

-- The loop's invariant: the first k bits are in.
use Prim.Native.Nat.{◌*◌, ◌≤◌}
use Rattle.rules.specs.Bits.{row}
use Rattle.laws.specs.Holds.{Holds}
use Rattle.laws.specs.Filled.{up_to}
use Rattle.hearing.specs.Reading.{spread_bit}
use Rattle.hearing.proofs.spread.spread_byte.Given as goal

abbrev pub invariant-loop-k : goal.invariant-loop-k
invariant-loop-k g l =
    (l.k ≤ 2 * g.row.W) × Holds 0 (2 * g.row.W) (up_to l.k (spread_bit g.row.W (λ i. l.byte)) (row l.initial.bits)) l.bits

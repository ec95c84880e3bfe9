-- The loop's invariant: the bits of the first i bytes are in.
use Prim.Native.Nat.{◌*◌, ◌≤◌}
use Rattle.rules.specs.Bits.{row}
use Rattle.laws.specs.Holds.{Holds}
use Rattle.laws.specs.Filled.{up_to}
use Rattle.hearing.specs.Reading.{spread_bit}
use Rattle.hearing.proofs.spread.spread.Given as goal

abbrev pub invariant-loop-i : goal.invariant-loop-i
invariant-loop-i g l =
    (l.i ≤ 500) × Holds 0 (2 * g.row.W * 500) (up_to (2 * g.row.W * l.i) (spread_bit g.row.W (row l.bytes)) (row l.initial.bits)) l.bits

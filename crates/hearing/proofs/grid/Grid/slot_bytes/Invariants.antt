-- The loop's invariant: the bytes of the slot's first i points are in.
use Prim.Native.Nat.{◌≤◌}
use Rattle.rules.specs.Bits.{row}
use Rattle.laws.specs.Holds.{Holds}
use Rattle.laws.specs.Filled.{up_to}
use Rattle.hearing.specs.Reading.{point_byte}
use Rattle.hearing.proofs.grid.Grid.slot_bytes.Given as goal

abbrev pub invariant-loop-i : goal.invariant-loop-i
invariant-loop-i l = (l.i ≤ 500) × Holds 0 500 (up_to l.i (point_byte (row l.self.cells.now) l.t) (λ k. 0)) l.byte-items

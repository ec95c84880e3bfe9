-- The loop's invariant: the register holds the remainder of the first bytes.
use Prim.Native.Nat.{◌-◌, ◌≤◌}
use Rattle.rules.specs.Bits.{row}
use Rattle.rules.specs.Outer.{remainder}
use Rattle.outer.specs.Steps.{Starts}
use Rattle.outer.proofs.division.Parity.remainder.Given as goal

abbrev pub invariant-loop-d : goal.invariant-loop-d
invariant-loop-d l = (l.d-index ≤ 16 - l.fn.self.r) × Starts l.fn.self.r (remainder l.fn.self.r (row l.fn.c) l.d-index) l.s

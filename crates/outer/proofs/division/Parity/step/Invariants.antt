-- The loop's invariant: the first i bytes of the register are there.
use Prim.Native.Nat.{◌≤◌}
use Rattle.rules.specs.Bits.{row}
use Rattle.laws.specs.Holds.{Holds}
use Rattle.outer.specs.Steps.{divided}
use Rattle.laws.specs.Filled.{up_to}
use Rattle.outer.proofs.division.Parity.step.Given as goal

abbrev pub invariant-loop-i : goal.invariant-loop-i
invariant-loop-i l = (l.i ≤ l.self.r) × Holds 0 8 (up_to l.i (divided l.self.r (row l.s) l.d) (λ k. 0)) l.t

-- The loop's invariant: the first entries are there, and the basis' coefficients follow.
use Prim.Native.Nat.{◌≤◌}
use Rattle.laws.specs.Holds.{Holds}
use Rattle.outer.specs.Solve.{basis, entry, other}
use Rattle.laws.specs.Filled.{up_to}
use Rattle.outer.proofs.matrix.Missing.entries.Given as goal

abbrev pub invariant-loop-c : goal.invariant-loop-c
invariant-loop-c l =
    let p = l.fn.self.p in
    let lost = l.fn.self.lost in
    (l.c-index ≤ 8) × Holds 0 8 (up_to l.c-index (entry l.fn.parity.r lost p) (basis (other lost p) 16)) l.c-items

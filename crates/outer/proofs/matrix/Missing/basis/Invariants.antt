-- The loop's invariant: b holds the product over those packets below n.
use Prim.Native.Nat.{◌≤◌}
use Rattle.laws.specs.Holds.{Holds}
use Rattle.outer.specs.Solve.{other, basis}
use Rattle.outer.proofs.matrix.Missing.basis.Given as goal

abbrev pub invariant-loop-n : goal.invariant-loop-n
invariant-loop-n l = (l.n ≤ 16) × Holds 0 8 (basis (other l.self.lost l.self.p) l.n) l.b

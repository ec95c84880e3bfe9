-- The loop's invariant: v is the product over those packets below n.
use mathlib.Core.Path.{◌≡◌}
use Prim.Native.Nat.{◌≤◌}
use Rattle.outer.specs.Solve.{other, product}
use Rattle.outer.proofs.matrix.Missing.product.Given as goal

abbrev pub invariant-loop-n : goal.invariant-loop-n
invariant-loop-n l = (l.n ≤ 16) × (l.v.0 ≡ product (other l.self.lost l.self.p) l.n l.x.0)

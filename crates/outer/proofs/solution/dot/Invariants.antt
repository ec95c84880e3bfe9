-- The loop's invariant: v is the sum of the first j products.
use mathlib.Core.Path.{◌≡◌}
use Prim.Native.Nat.{◌≤◌}
use Rattle.rules.specs.Bits.{row}
use Rattle.rules.specs.Field.{◌⊗◌}
use Rattle.outer.specs.Solve.{sum}
use Rattle.outer.proofs.solution.dot.Given as goal

abbrev pub invariant-loop-j : goal.invariant-loop-j
invariant-loop-j l = (l.j ≤ l.fn.parity.r) × (l.v.0 ≡ sum l.j (λ j. row l.a j ⊗ row l.b j))

-- The loop's invariant: the first p bytes are there, and zeros follow.
use Prim.Native.Nat.{◌≤◌}
use Rattle.rules.specs.Outer.{column}
use Rattle.laws.specs.Holds.{Holds}
use Rattle.outer.specs.Solve.{kept}
use Rattle.laws.specs.Filled.{up_to}
use Rattle.outer.proofs.columns.kept.Given as goal

abbrev pub invariant-loop-p : goal.invariant-loop-p
invariant-loop-p l = (l.p ≤ 16) × Holds 0 16 (up_to l.p (kept l.lost (column l.block l.j)) (λ k. 0)) l.c

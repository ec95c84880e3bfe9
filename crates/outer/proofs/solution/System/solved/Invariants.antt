-- The loop's invariant: the first j columns are worked out, and they are codewords.
use mathlib.Core.Path.{◌≡◌}
use Prim.Native.Nat.{◌≤◌}
use lib.ListN.{length}
use Rattle.outer.specs.Steps.{Solved}
use Rattle.outer.proofs.solution.System.solved.Given as goal

abbrev pub invariant-loop-j : goal.invariant-loop-j
invariant-loop-j l = (l.j ≤ 122) × (length l.out ≡ 1952) × Solved l.j l.self.parity.r l.self.lost l.block l.out

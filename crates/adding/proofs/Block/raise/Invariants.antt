-- At the loop's head the totals before i count the block, and the others are as they were.
use mathlib.Core.List.{List}
use Prim.Native.Nat.{ℕ, ◌+◌, ◌≤◌}
use Rattle.rules.specs.Bits.{row}
use Rattle.rules.specs.declared.Receipt.{Receipt}
use Rattle.laws.specs.Holds.{Holds}
use Rattle.laws.specs.Filled.{up_to}
use Rattle.adding.proofs.Counting.{once}
use Rattle.adding.proofs.Block.raise.Given as goal

abbrev pub more : List ℕ → Receipt → ℕ → ℕ
more t a k = row t k + once k a

abbrev pub invariant-loop-i : goal.invariant-loop-i
invariant-loop-i l = (l.i ≤ 128) × Holds 0 128 (up_to l.i (more l.initial.totals l.self.receipt) (row l.initial.totals)) l.totals

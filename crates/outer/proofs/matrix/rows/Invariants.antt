-- The loop's invariant: i lost packets were passed, and each has its row.
use mathlib.Core.Path.{◌≡◌}
use mathlib.Core.List.{List}
use Prim.Native.Nat.{ℕ, ◌≤◌}
use lib.ListN.{length}
use Rattle.rules.specs.Outer.{marked}
use Rattle.outer.specs.Solve.{tally}
use Rattle.outer.specs.Steps.{Rows}
use Rattle.outer.proofs.matrix.rows.Given as goal

-- i lost packets are below p, and each has its row
pub record Placed (r lost p : ℕ) (m : List (List ℕ)) (i : ℕ) : Type 0 where
  pub long : length m ≡ 8
  pub place : i ≡ tally (marked lost) p
  pub rows : Rows p r lost m

abbrev pub invariant-loop-p : goal.invariant-loop-p
invariant-loop-p l = (l.p ≤ 16) × Placed l.parity.r l.lost l.p l.m l.i

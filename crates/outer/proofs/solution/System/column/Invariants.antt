-- The loop's invariant: i lost packets were passed, and the bytes of the first p packets are worked out.
use mathlib.Core.Path.{◌≡◌}
use mathlib.Core.List.{List}
use Prim.Native.Nat.{ℕ, ◌≤◌}
use Rattle.rules.specs.Outer.{marked, column}
use Rattle.laws.specs.Holds.{Holds}
use Rattle.outer.specs.Solve.{tally, kept, solved}
use Rattle.laws.specs.Filled.{up_to}
use Rattle.outer.proofs.solution.System.column.Given as goal

pub record Worked (r lost : ℕ) (d : ℕ → ℕ) (p : ℕ) (c : List ℕ) (i : ℕ) : Type 0 where
  pub place : i ≡ tally (marked lost) p
  pub bytes : Holds 0 16 (up_to p (solved r lost d) (kept lost d)) c

abbrev pub invariant-loop-p : goal.invariant-loop-p
invariant-loop-p l =
    (l.p ≤ 16) × Worked l.self.parity.r l.self.lost (column l.block l.j) l.p l.c l.i

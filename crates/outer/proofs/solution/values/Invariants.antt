-- The loop's invariant: v has the values of the first coefficients.
use mathlib.Core.List.{List}
use Prim.Native.Nat.{ℕ, ◌≤◌}
use Rattle.rules.specs.Bits.{row}
use Rattle.rules.specs.Outer.{value}
use Rattle.laws.specs.Holds.{Holds}
use Rattle.outer.proofs.solution.values.Given as goal

abbrev pub values_of : List ℕ → List ℕ → ℕ → ℕ → ℕ
values_of x c p j = value p (row c) (row x j)

abbrev pub invariant-loop-byte : goal.invariant-loop-byte
invariant-loop-byte l = (l.byte-index ≤ 16) × Holds 0 8 (values_of l.x l.byte-items l.byte-index) l.v

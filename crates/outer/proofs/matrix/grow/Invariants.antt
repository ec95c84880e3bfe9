-- The loop's invariant: the first j coefficients stand, and the last one of b is at hand.
use mathlib.Core.Path.{◌≡◌}
use mathlib.Core.List.{List}
use Prim.Native.Nat.{ℕ, ◌≤◌}
use Rattle.rules.specs.Bits.{row}
use Rattle.rules.specs.Field.{◌⊕◌, ◌⊗◌}
use Rattle.laws.specs.Holds.{Holds}
use Rattle.outer.specs.Solve.{raised}
use Rattle.laws.specs.Filled.{up_to}
use Rattle.outer.proofs.matrix.grow.Given as goal

-- the coefficients of b times x plus a
abbrev pub times-linear : List ℕ → ℕ → ℕ → ℕ
times-linear b a j = raised (row b) j ⊕ a ⊗ row b j

abbrev pub invariant-loop-c : goal.invariant-loop-c
invariant-loop-c l =
    (l.c-index ≤ 8) × (l.last.0 ≡ raised (row l.initial.b) l.c-index)
    × Holds 0 8 (up_to l.c-index (times-linear l.initial.b l.a.0) (row l.initial.b)) l.b

-- The loop's invariant: the first j values have taken the coefficient.
use mathlib.Core.List.{List}
use Prim.Native.Nat.{ℕ, ◌≤◌}
use Rattle.rules.specs.Bits.{row}
use Rattle.rules.specs.Field.{◌⊕◌, ◌⊗◌}
use Rattle.laws.specs.Holds.{Holds}
use Rattle.laws.specs.Filled.{up_to}
use Rattle.outer.proofs.solution.after.Given as goal

abbrev pub taken : List ℕ → List ℕ → ℕ → ℕ → ℕ
taken x v c j = row x j ⊗ row v j ⊕ c

abbrev pub invariant-loop-j : goal.invariant-loop-j
invariant-loop-j l = (l.j ≤ 8) × Holds 0 8 (up_to l.j (taken l.x l.v l.c) (λ k. 0)) l.w

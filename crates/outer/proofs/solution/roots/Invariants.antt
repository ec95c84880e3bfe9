-- The loop's invariant: the first j powers are there, and the next one is at hand.
use mathlib.Core.Path.{◌≡◌}
use Prim.Native.Nat.{◌≤◌}
use Rattle.rules.specs.Outer.{root}
use Rattle.laws.specs.Holds.{Holds}
use Rattle.laws.specs.Filled.{up_to}
use Rattle.outer.proofs.solution.roots.Given as goal

abbrev pub invariant-loop-x : goal.invariant-loop-x
invariant-loop-x l =
    (l.x-index ≤ 8) × (l.power.0 ≡ root l.fn.parity.r l.x-index) × Holds 0 8 (up_to l.x-index (root l.fn.parity.r) (λ k. 0)) l.x-items

-- The loop's invariant: the first p bytes of the column are written.
use mathlib.Core.Path.{◌≡◌}
use Prim.Native.Nat.{ℕ, ◌≤◌, ◌<◌}
use lib.ListN.{length}
use Rattle.rules.specs.Bits.{row}
use Rattle.rules.specs.Outer.{column}
use Rattle.outer.proofs.columns.put.Given as goal

abbrev pub invariant-loop-p : goal.invariant-loop-p
invariant-loop-p l =
    (l.p ≤ 16) × (length l.block ≡ 1952) × ((q : ℕ) → q < l.p → column l.block l.j q ≡ row l.c q)
    × ((i : ℕ) → i < 122 → ¬ (i ≡ l.j) → (q : ℕ) → q < 16 → column l.block i q ≡ column l.initial.block i q)

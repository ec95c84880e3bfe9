-- The loop's invariant: of the bytes before it, no one is above `most`, and nothing smaller is so.
use mathlib.Core.List.{List}
use Prim.Native.Nat.{ℕ, ◌<◌, ◌≤◌}
use Rattle.rules.specs.Bits.{row}
use Rattle.receiving.proofs.pieces.largest.Given as goal

abbrev pub Above : List ℕ → ℕ → ℕ → Type 0
Above l i most = (k : ℕ) → k < i → row l k ≤ most

abbrev pub invariant-loop-b : goal.invariant-loop-b
invariant-loop-b l = Above l.bytes l.b-index l.most × ((b : ℕ) → Above l.bytes l.b-index b → l.most ≤ b)

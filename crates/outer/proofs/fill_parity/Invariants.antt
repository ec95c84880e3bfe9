-- The loop's invariant: the first j columns are codewords, and the others are as they were.
use mathlib.Core.Path.{◌≡◌}
use mathlib.Core.List.{List}
use Prim.Native.Nat.{ℕ, ◌≤◌, ◌<◌}
use lib.ListN.{length}
use Rattle.rules.specs.Outer.{column, encoded}
use Rattle.laws.specs.Filled.{up_to}
use Rattle.outer.proofs.fill_parity.Given as goal

-- the first n columns are encoded
abbrev pub Made : ℕ → ℕ → List ℕ → List ℕ → Type 0
Made r n before after =
    (j : ℕ) → j < 122 → (p : ℕ) → p < 16 → column after j p ≡ up_to n (λ i. encoded r (column before i) p) (λ i. column before i p) j

abbrev pub invariant-loop-j : goal.invariant-loop-j
invariant-loop-j l =
    (l.j ≤ 122) × (length l.block ≡ 1952) × Made l.parity.r l.j l.initial.block l.block

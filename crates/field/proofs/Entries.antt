-- A table's entries, by a test of the whole table.
use mathlib.Core.Path.{◌≡◌}
use mathlib.Core.List.{List}
use Prim.Native.Nat.{ℕ, ◌<◌}
use lib.Dec.{T, eqb, eqb→eq}
use Rattle.rules.specs.Bits.{every_below, row}
use Rattle.laws.specs.Every.{every-at}

-- the test: each of sixteen words is the rule's
abbrev pub Right : List ℕ → (ℕ → ℕ) → Type 0
Right words rule = T (every_below 16 (λ k. eqb (row words k) (rule k)))

pub entry : (words : List ℕ) (rule : ℕ → ℕ) → Right words rule → (n : ℕ) → n < 16 → row words n ≡ rule n
entry words rule t n lt = eqb→eq _ _ (every-at 16 (λ k. eqb (row words k) (rule k)) t n lt)

-- `encoded` fills in the four streams: before turn i, i parities of both encoders and their registers' states are there.
use mathlib.Core.Path.{◌≡◌}
use Prim.Native.Nat.{ℕ, ◌≤◌}
use Rattle.rules.specs.Bits.{row}
use Rattle.rules.specs.Turbo.{state, y0}
use Rattle.laws.specs.Holds.{Holds}
use Rattle.turbo.specs.Within.{within, from}
use Rattle.turbo.proofs.encoded.Given as goal

-- the parities of the first i bits, where g has the bits of both encoders
abbrev pub walked : ℕ → (ℕ → ℕ) → ℕ → ℕ
walked i g = within 997 i (y0 g) (within 2991 i (y0 (from g 1994)) g)

abbrev pub invariant-loop-i : goal.invariant-loop-i
invariant-loop-i l =
    (l.i ≤ 994)
    × (l.first.bits ≡ state (row l.initial.s) l.i)
    × (l.second.bits ≡ state (from (row l.initial.s) 1994) l.i)
    × Holds 0 3988 (walked l.i (row l.initial.s)) l.s

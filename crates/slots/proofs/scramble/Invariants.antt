-- The first i bits are scrambled.
use mathlib.Core.List.{List}
use Prim.Native.Nat.{ℕ}
use lib.ListN.{length}
use Rattle.rules.specs.Bits.{row}
use Rattle.rules.specs.Slots.{scrambling}
use Rattle.rules.specs.Block.{unscrambled}
use Rattle.laws.specs.Holds.{Holds}
use Rattle.laws.specs.Filled.{up_to}
use Rattle.slots.proofs.scramble.Given as goal

-- what bit k becomes
abbrev pub after : ℕ → ℕ → List ℕ → ℕ → ℕ
after seed mask l k = unscrambled (row l k) (scrambling seed mask k)

abbrev pub invariant-loop-i : goal.invariant-loop-i
invariant-loop-i l = Holds 0 (length l.initial.bit-items) (up_to l.i (after l.seed l.mask l.initial.bit-items) (row l.initial.bit-items)) l.bit-items

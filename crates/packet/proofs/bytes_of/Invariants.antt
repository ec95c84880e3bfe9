-- The loop's invariant: the first j bytes are made.
use mathlib.Core.List.{List}
use Prim.Native.Nat.{ℕ, ◌%◌}
use Rattle.rules.specs.Bits.{row}
use Rattle.rules.specs.Block.{byte_of}
use Rattle.laws.specs.Holds.{Holds}
use Rattle.laws.specs.Filled.{up_to}
use Rattle.packet.proofs.bytes_of.Given as goal

-- byte j of the bits that the elements count as
abbrev pub byte : List ℕ → ℕ → ℕ
byte x = byte_of (λ i. row x i % 2)

abbrev pub invariant-loop-j : goal.invariant-loop-j
invariant-loop-j l = Holds 0 122 (up_to l.j (byte l.x) (λ k. 0)) l.byte-items

-- What a function is told of an array of bytes that comes by value: each of them is below 256.
use Rattle.std.specs.Prelude.{List, [], ◌∷◌, ℕ, zero, suc, ◌<◌, length}
use Rattle.std.proofs.Common.{arith}
use Rattle.std.specs.Int.{w8}
use mir.Val.{Val}
use denote.Array.{each}
use denote.Plain.{UInt}
use denote.Shadow.{shadow}
use Rattle.rules.specs.Bits.{row}

pub byte_at : (l : List ℕ) (vs : List Val) → shadow (each ℕ (UInt w8).own_val l vs) → (i : ℕ) → i < length l → row l i < 256
byte_at [] vs s i h = absurd (omega arith)
byte_at (x ∷ l) [] s i h = absurd s
byte_at (x ∷ l) (v ∷ vs) s zero h = s.0.1
byte_at (x ∷ l) (v ∷ vs) s (suc i) h = byte_at l vs s.1 i (omega arith)

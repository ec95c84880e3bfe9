-- The block that making the parity leaves has the packets of its data.
use mathlib.Core.Path.{◌≡◌, ◌∙◌}
use mathlib.Core.List.{List}
use Prim.Native.Nat.{ℕ, ◌+◌, ◌-◌, ◌*◌, ◌<◌}
use native.Mathlib.Omega.{arith}
use lib.Dec.{T}
use Rattle.rules.specs.Bits.{row}
use Rattle.rules.specs.Outer.{is_k, ParityMade}
use Rattle.rules.specs.Block.{packet}
use Rattle.laws.specs.Holds.{Holds}
use Rattle.laws.specs.Filled.{up_to, up_to-below}
use Rattle.outer.proofs.Roots.{k-range, encoded-same}
use Rattle.outer.proofs.Answers.{parity-answered}

-- where K is right and the data is in its place, a block of 16 packets is not refused
pub block-packet : (k : ℕ) (d before after : List ℕ) (n : ℕ)
    → T (is_k k)
    → Holds 0 1952 (up_to (122 * k) (row d) (λ i. 0)) before
    → ParityMade k before after n
    → (p j : ℕ)
    → p < 16
    → j < 122
    → row after (122 * p + j) ≡ packet k d p j
block-packet k d before after n t h made p j p<16 j<122 =
    made.columns (parity-answered t h.long made) j j<122 p p<16
    ∙ encoded-same (16 - k)
    (λ q lt. h.each (122 * q + j) (omega (arith, k-range k t)) ∙ up_to-below (row d) (λ i. 0) (122 * k) (122 * q + j) (omega (arith, k-range k t))) p

-- A turn of the loop that codes a block's packets one after the other.
use mathlib.Core.Path.{◌≡◌, sym, ◌∙◌, ap₂, subst}
use mathlib.Core.List.{List}
use Prim.Native.Nat.{ℕ, ◌+◌, ◌*◌, ◌/◌, ◌%◌, ◌<◌, ◌≤◌}
use native.Mathlib.Nat.{mul-zero}
use native.Mathlib.Omega.{arith}
use lib.ListN.{length, replicate}
use Rattle.rules.specs.Bits.{row}
use Rattle.rules.specs.Packet.{packet_bit}
use Rattle.rules.specs.Modes.{packet_bits}
use Rattle.rules.specs.Slots.{coded, block_bit}
use Rattle.laws.specs.Holds.{Holds}
use Rattle.laws.specs.Filled.{holds-new}
use Rattle.laws.specs.Parts.{part, put_part, part-number, part-place, part_at, part-within, holds-part}
use Rattle.packet.proofs.Bits.{packet-same}
use Rattle.turbo.specs.Blocks.{coded_row}
use Rattle.turbo.proofs.Modes.{coded-same}

-- before the first turn
pub coded_none : (m n : ℕ) (block : List ℕ) → Holds 0 48000 (coded_row m (n * 0) block) (replicate 48000 0)
coded_none m n block = rw (mul-zero n) (holds-new 48000 (block_bit m (λ q j. row block (122 * q + j))))

module _ (m n : ℕ) (width : n ≡ packet_bits m) where
  -- bit k of packet p
  block-bit : (b : ℕ → ℕ → ℕ) (p k : ℕ) → k < n → block_bit m b (n * p + k) ≡ coded m (packet_bit (b p)) k
  block-bit b p k h =
      ap₂ (λ (q i : ℕ). coded m (packet_bit (b q)) i) (subst (λ (w : ℕ). (n * p + k) / w ≡ p) width (part-number n p k h))
      (subst (λ (w : ℕ). (n * p + k) % w ≡ k) width (part-place n p k h))

  -- the part of packet p is coded from the packet's bytes
  pub coded-turn : (block bits y : List ℕ) (p from to : ℕ)
      → length block ≡ 1952
      → n * 16 ≤ 48000
      → p < 16
      → from ≡ 122 * p + 122
      → to ≡ n * p + n
      → Holds 0 (packet_bits m) (coded m (packet_bit (row (part (122 * p) from block)))) y
      → Holds 0 48000 (coded_row m (n * p) block) bits
      → Holds 0 48000 (coded_row m (n * (p + 1)) block) (put_part (n * p) to bits y)
  coded-turn block bits y p from to long room lt ef et made h =
      holds-part 0 (block_bit m (λ q j. row block (122 * q + j))) (λ g. 0) n p to y et within (made.long ∙ sym width)
      (λ k k<n. made.each k (omega arith) ∙ coded-same m _ _ (λ i i<994. packet-same _ _ bytes i) k (omega arith)
      ∙ sym (block-bit (λ q j. row block (122 * q + j)) p k k<n))
      h
    where
      within : to ≤ 48000
      within = omega (arith, part-within n p 16 lt)

      bytes : (j : ℕ) → j < 122 → row (part (122 * p) from block) j ≡ row block (122 * p + j)
      bytes j j<122 = part_at (122 * p) from block (omega arith) (omega arith) j 0 (omega arith)

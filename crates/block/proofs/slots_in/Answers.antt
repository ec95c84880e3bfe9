-- All of a block's slots, or none.
use mathlib.Core.Path.{◌≡◌, sym}
use Prim.Native.Nat.{ℕ, ◌*◌, ◌<◌, ◌≤◌}
use native.Mathlib.Nat.{mul-zero}
use native.Mathlib.Omega.{arith}
use Rattle.rules.specs.Modes.{slot_bits, slots}
use Rattle.modes.proofs.Figures.{figures}
use Rattle.block.specs.Steps.{held}
use Rattle.block.proofs.Scrambling.{held_all, held_none}
use Rattle.block.proofs.slots_in.Goals as goal

none : (m bits : ℕ) → bits < slot_bits m * slots m → (slot_bits m * 0 ≡ held m bits) × (slot_bits m * 0 ≤ bits) × (0 ≤ 48)
none m bits h = rw (mul-zero (slot_bits m)) (sym (held_none m bits h), omega arith, omega arith)

all : (m bits n : ℕ) → n ≡ slots m → slot_bits m * slots m ≤ bits → (slot_bits m * n ≡ held m bits) × (slot_bits m * n ≤ bits) × (n ≤ 48)
all m bits n e h = rw e (sym (held_all m bits h), h, (figures m).slots_most)

pub returns-then-bits-block_bits : goal.returns-then-bits-block_bits
returns-then-bits-block_bits c =
    none c.args.mode c.args.bits (omega (arith, c.block_bits.ensures.0))

pub returns-else-bits-block_bits : goal.returns-else-bits-block_bits
returns-else-bits-block_bits c =
    all c.args.mode c.args.bits _ c.slot_count.ensures.0 (omega (arith, c.block_bits.ensures.0))

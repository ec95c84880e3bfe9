-- A block's slots, and that each point's bits are the block's.
use Prim.Native.Nat.{ℕ, ◌+◌, ◌*◌, ◌<◌, ◌≤◌}
use native.Mathlib.Nat.{mul-le-mul_left}
use native.Mathlib.Omega.{arith}
use Rattle.rules.specs.Modes.{part_bits, slots, slot_bits}
use Rattle.laws.specs.Parts.{part-within}
use Rattle.modes.proofs.Figures.{figures}

pub slots-lt : (m : ℕ) → slots m < 4096
slots-lt m = omega (arith, (figures m).slots_most)

-- the bits of point i of block slot t are the block's
pub point-inside : (m t i : ℕ) → t < slots m → i < 500 → slot_bits m * t + 2 * part_bits m * i + 2 * part_bits m ≤ slot_bits m * slots m
point-inside m t i h l =
    omega (
      arith,
      mul-le-mul_left {m = i + 1} {n = 500} (2 * part_bits m) (omega arith),
      (figures m).slot,
      part-within (slot_bits m) t (slots m) h,
    )

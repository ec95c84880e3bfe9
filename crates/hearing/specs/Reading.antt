-- A block's bits read from what the grid's cells decide to.
use Rattle.std.specs.Prelude.{◌≡◌, Bool, true, false, ◌&&◌, List, ℕ, ◌*◌, ◌/◌, ◌%◌, eqb, length}
use Rattle.rules.specs.Bits.{row}
use Rattle.rules.specs.Modes.{slots, slot_bits, symbols}
use Rattle.rules.specs.Points.{bit_in}
use Rattle.rules.specs.Cells.{grid_cell}
use Rattle.rules.specs.Block.{in_block}
use Rattle.rules.specs.Pieces.{decision_in, kept_bit}
use Rattle.laws.specs.Holds.{Holds}

-- the byte of point i of block slot t, among those of the grid's cells
abbrev pub point_byte : (ℕ → ℕ) → ℕ → ℕ → ℕ
point_byte cells t i = cells (grid_cell t i)

-- bit i of such bytes, each with two parts of w bits
abbrev pub spread_bit : ℕ → (ℕ → ℕ) → ℕ → ℕ
spread_bit w bytes i = bit_in w (decision_in w (bytes (i / w / 2)) (i / w)) (i % w)

pub record ReadRule (m : ℕ) (cells before after : List ℕ) (r : Bool) : Type 0 where
  pub answer : r ≡ (eqb (length cells) (4096 * symbols m) && eqb (length before) (slot_bits m * slots m))
  pub done : r ≡ true → Holds 0 (slot_bits m * slots m) (in_block m (kept_bit m (row cells))) after
  pub kept : r ≡ false → after ≡ before

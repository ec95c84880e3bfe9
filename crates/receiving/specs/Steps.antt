-- What the steps of testing a state and of judging answer.
use Rattle.std.specs.Prelude.{◌≡◌, List, ℕ, ◌*◌, ◌<◌, ◌≤◌, length}
use Rattle.rules.specs.Bits.{row}
use Rattle.rules.specs.Modes.{slot_bits, slots}
use Rattle.rules.specs.Block.{in_block}
use Rattle.rules.specs.Pieces.{kept_bit}

-- a block's bits as the bytes of the grid's cells have them, with room left after them
abbrev pub KeptBits : ℕ → List ℕ → List ℕ → Type 0
KeptBits m cells l = (g : ℕ) → g < slot_bits m * slots m → row l g ≡ in_block m (kept_bit m (row cells)) g

-- the largest of some bytes, 0 of none: no byte is above it, and nothing smaller is so
pub record Largest (l : List ℕ) (r : ℕ) : Type 0 where
  pub above : (i : ℕ) → i < length l → row l i ≤ r
  pub least : (b : ℕ) → ((i : ℕ) → i < length l → row l i ≤ b) → r ≤ b

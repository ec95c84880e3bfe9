-- A block's bits while they are being scrambled, slot after slot.
use Rattle.std.specs.Prelude.{List, ℕ, ◌*◌, ◌/◌, ◌%◌, leb}
use Rattle.rules.specs.Bits.{pick, row}
use Rattle.rules.specs.Modes.{slot_bits, slots}
use Rattle.rules.specs.Slots.{slot_number, scrambling}
use Rattle.rules.specs.Block.{unscrambled}
use Rattle.laws.specs.Filled.{up_to}

-- bits of which the first n are scrambled, in slots of b bits
abbrev pub scrambled_row : ℕ → List ℕ → List ℕ → ℕ → (ℕ → ℕ) → ℕ → ℕ
scrambled_row b seeds masks n f =
    up_to n (λ g. unscrambled (f g) (scrambling (row seeds (g / b)) (row masks (slot_number (g / b))) (g % b))) f

-- how many of so many bits are scrambled: a block's, if they are all there
abbrev pub held : ℕ → ℕ → ℕ
held m bits = pick (leb (slot_bits m * slots m) bits) (slot_bits m * slots m) 0

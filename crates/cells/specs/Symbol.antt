-- One symbol's cells from a block's bits.
use Rattle.std.specs.Prelude.{◌≡◌, Bool, true, false, ◌&&◌, List, ℕ, ◌+◌, ◌*◌, ◌/◌, ◌%◌, eqb, ltb, Float, length}
use Rattle.rules.specs.Bits.{row}
use Rattle.rules.specs.Modes.{part_bits, slots, slot_bits, symbols}
use Rattle.rules.specs.Points.{signed, sized, zero_part, first_part, second_part}
use Rattle.rules.specs.Cells.{carried}
use Rattle.rules.specs.Block.{cell_for}
use Rattle.rules.specs.declared.Cell.{Cell}
use Rattle.laws.specs.Holds.{Holds}

-- the parts that one bit makes at a level, as a list by bit; bit 0 makes the level
abbrev pub Signed : Float → List Float → Type 0
Signed level l = Holds zero_part 256 (λ b. signed b level) l

-- the parts that two bits make, by twice the size bit and the sign bit; bits 1 and 0 make the level
abbrev pub Sized : Float → List Float → Type 0
Sized level l = Holds zero_part 4 (λ k. signed (k % 2) (sized (k / 2) level)) l

-- a block's bits as a list, slot after slot
abbrev pub slot_bit : ℕ → List ℕ → ℕ → ℕ → ℕ
slot_bit m bits t i = row bits (slot_bits m * t + i)

-- cell c of a symbol, from the scrambled bits of the block
abbrev pub symbol_cell : ℕ → Float → List ℕ → ℕ → ℕ → Cell
symbol_cell m level bits symbol c = cell_for (part_bits m) level (slot_bit m bits) (carried m symbol c)

pub record Written (m : ℕ) (level : Float) (bits : List ℕ) (symbol : ℕ) (firsts seconds : List Float) : Type 0 where
  pub firsts_are : Holds zero_part 4096 (λ c. first_part (symbol_cell m level bits symbol c)) firsts
  pub seconds_are : Holds zero_part 4096 (λ c. second_part (symbol_cell m level bits symbol c)) seconds

-- whether a symbol can be written: two lists of 4096 cells, a symbol of the grid, and as many bits as the block has
abbrev pub fitting : ℕ → ℕ → ℕ → ℕ → ℕ → Bool
fitting m symbol bits firsts seconds =
    eqb firsts 4096 && (eqb seconds 4096 && (ltb symbol (symbols m) && eqb bits (slot_bits m * slots m)))

-- what writing a symbol answers, and what the lists then hold
pub record WriteRule (m : ℕ) (level : Float) (bits : List ℕ) (symbol : ℕ) (firsts seconds firsts' seconds' : List Float) (r : Bool) : Type 0 where
  pub answer : r ≡ fitting m symbol (length bits) (length firsts) (length seconds)
  pub done : r ≡ true → Written m level bits symbol firsts' seconds'
  pub kept : r ≡ false → (firsts' ≡ firsts) × (seconds' ≡ seconds)

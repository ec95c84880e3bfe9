-- A turn of the loop that writes a grid's symbols one after the other.
use mathlib.Core.Path.{◌≡◌, sym, ◌∙◌, ap₂}
use mathlib.Core.List.{List}
use Prim.Native.Nat.{ℕ, ◌+◌, ◌*◌, ◌≤◌}
use lib.Ieee.{Float}
use Rattle.rules.specs.Points.{zero_part}
use Rattle.rules.specs.declared.Cell.{Cell}
use Rattle.laws.specs.Holds.{Holds}
use Rattle.laws.specs.Filled.{up_to}
use Rattle.cells.specs.Symbol.{symbol_cell}
use Rattle.laws.specs.Parts.{put_part, part-number, part-place, holds-part}
use Rattle.sending.specs.Steps.{grid_cell}

-- one of the two lists: side is the first or the second part of a cell
pub grid-turn : (side : Cell → Float) (m : ℕ) (level : Float) (bits : List ℕ) (g : ℕ → Float) {n : ℕ} (l y : List Float) (symbol to : ℕ)
    → to ≡ 4096 * symbol + 4096
    → to ≤ n
    → Holds zero_part 4096 (λ c. side (symbol_cell m level bits symbol c)) y
    → Holds zero_part n (up_to (4096 * symbol) (λ i. side (grid_cell m level bits i)) g) l
    → Holds zero_part n (up_to (4096 * (symbol + 1)) (λ i. side (grid_cell m level bits i)) g) (put_part (4096 * symbol) to l y)
grid-turn side m level bits g l y symbol to end room written h =
    holds-part zero_part (λ i. side (grid_cell m level bits i)) g 4096 symbol to y end room written.long
    (λ k lt. written.each k lt
    ∙ sym (ap₂ (λ (q c : ℕ). side (symbol_cell m level bits q c)) (part-number 4096 symbol k lt) (part-place 4096 symbol k lt)))
    h

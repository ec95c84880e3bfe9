-- What the steps of sending have reached.
use Rattle.std.specs.Prelude.{List, ℕ, ◌*◌, ◌/◌, ◌%◌, Float}
use Rattle.rules.specs.Modes.{symbols}
use Rattle.rules.specs.Points.{zero_part, first_part, second_part}
use Rattle.rules.specs.declared.Cell.{Cell}
use Rattle.laws.specs.Holds.{Holds}
use Rattle.cells.specs.Symbol.{symbol_cell}

-- cell g of the grid
abbrev pub grid_cell : ℕ → Float → List ℕ → ℕ → Cell
grid_cell m level bits g = symbol_cell m level bits (g / 4096) (g % 4096)

pub record Grid (m : ℕ) (level : Float) (bits : List ℕ) (firsts seconds : List Float) : Type 0 where
  pub firsts_are : Holds zero_part (4096 * symbols m) (λ g. first_part (grid_cell m level bits g)) firsts
  pub seconds_are : Holds zero_part (4096 * symbols m) (λ g. second_part (grid_cell m level bits g)) seconds

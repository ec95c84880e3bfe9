-- A list of bits.
use Rattle.std.specs.Prelude.{List, ℕ, ◌<◌}
use Rattle.rules.specs.Bits.{row}

abbrev pub Bits : List ℕ → Type 0
Bits l = (i : ℕ) → row l i < 2

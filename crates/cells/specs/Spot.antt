-- The code's word for where a cell is, as the rules have it.
use Rattle.std.specs.Prelude.{Option, Some, None}
use Rattle.rules.specs.Cells.{Belongs, outside, place}
use Rattle.cells.specs.declared.spot.Spot.{Spot}

abbrev pub belonging : Option Spot → Belongs
belonging None = outside
belonging (Some s) = place s.interlace s.place

-- `Grid::point_cell` meets its contract: a place is one of the interlace's.
use mathlib.Core.Path.{◌≡◌, ◌∙◌}
use native.Mathlib.Omega.{arith}
use Rattle.std.specs.Prelude.{Some}
use Rattle.rules.specs.Cells.{place_of}
use Rattle.laws.specs.Filled.{pick-lt}
use Rattle.cells.proofs.Inverse.{place-lt}
use Rattle.hearing.proofs.grid.Grid.point_cell.Goals as goal

pub cell_of-requires : goal.cell_of-requires
cell_of-requires c =
    let i = c.args.i in
    let held : c.at.result ≡ Some (place_of i) = c.at.ensures ∙ pick-lt i 500 _ _ c.requires.1 in
    let is : c.unwrap.result ≡ place_of i = cc in
    (c.interlace_of.ensures.1, omega (arith, is, place-lt c.requires.1))

-- `Lines::cell` meets its contract: two decisions are within a byte.
use native.Mathlib.Omega.{arith}
use Rattle.deciding.proofs.Deciding.{cell-fits}
use Rattle.deciding.proofs.lines.Lines.cell.Goals as goal

pub overflow_mul-result : goal.overflow_mul-result
overflow_mul-result g c =
    omega (arith, cell-fits g.row.W c.part.result c.part-2.result c.requires.0 c.requires.1 c.part.ensures.1 c.part-2.ensures.1)

pub overflow_add-result : goal.overflow_add-result
overflow_add-result g c =
    omega (arith, cell-fits g.row.W c.part.result c.part-2.result c.requires.0 c.requires.1 c.part.ensures.1 c.part-2.ensures.1)

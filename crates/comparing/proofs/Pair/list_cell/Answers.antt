-- Whether the difference has a place.
use native.Mathlib.Omega.{arith}
use Rattle.comparing.proofs.Filling.{none-gone}
use Rattle.comparing.proofs.Pair.list_cell.Goals as goal

pub returns-then-list-k : goal.returns-then-list-k
returns-then-list-k c = rw (← c.difference.ensures) c.list_one.ensures

pub returns-else-list-k : goal.returns-else-list-k
returns-else-list-k c = none-gone c.args.list.now c.args.k _ (omega (arith, c.if-list-k.false))

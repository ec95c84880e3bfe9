-- At the loop's head the cells before i are done.
use Rattle.comparing.proofs.Going.{Going}
use Rattle.comparing.proofs.Pair.list_all.Given as goal

abbrev pub invariant-loop-i : goal.invariant-loop-i
invariant-loop-i l = Going l.from l.self l.initial.list l.list l.count l.i

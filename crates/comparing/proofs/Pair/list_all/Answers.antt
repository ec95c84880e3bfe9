-- A cell that differs goes in, one that is the same does not.
use mathlib.Core.Path.{sym, ◌∙◌}
use native.Mathlib.Omega.{arith}
use Rattle.comparing.proofs.Going.{going_start, going-same, going_next, going_end}
use Rattle.comparing.proofs.Pair.list_all.Goals.{else-differs, then-differs}
use Rattle.comparing.proofs.Pair.list_all.Goals as goal

pub loop-i-init : goal.loop-i-init
loop-i-init c = going_start

pub loop-i-preserved : goal.loop-i-preserved
loop-i-preserved c =
    let is = c.differs.ensures in
    elim c.if-differs.branch [
      | then-differs w ↦
          rw (w.list-is, w.count-is) (going_next c.loop-i.invariant (omega arith) (sym is ∙ w.if-differs.true) w.list_cell.ensures)
      | else-differs w ↦ rw (w.list-is, w.count-is) (going-same c.loop-i.invariant (omega arith) (sym is ∙ w.if-differs.false))
    ]

pub returns-clause-listed : goal.returns-clause-listed
returns-clause-listed c = (going_end c.loop-i.invariant (omega arith)).1

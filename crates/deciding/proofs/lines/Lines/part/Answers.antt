-- `Lines::part` meets its contract: of one bit a part's decision is its sign.
use mathlib.Core.Path.{◌∙◌}
use native.Mathlib.Omega.{arith}
use Rattle.deciding.proofs.Deciding.{decide-one}
use Rattle.deciding.proofs.lines.Lines.part.Goals as goal

pub returns-then-this-eq1 : goal.returns-then-this-eq1
returns-then-this-eq1 g c =
    let s = c.args.self in
    (c.sign.ensures.0 ∙ decide-one g.row.W s.level s.floor c.args.part c.if-this-eq1.true, rw c.if-this-eq1.true (omega arith))

-- A test for each list, and one for whole symbols.
use Rattle.comparing.proofs.Lengths.{unequal, whole, unwhole}
use Rattle.comparing.proofs.Pair.new.Goals.{then-seconds_a-cells-via-then-seconds_a-cells, then-seconds_a-cells-via-else-seconds_a-cells+then-firsts_b-cells, then-seconds_a-cells-via-else-seconds_a-cells+else-firsts_b-cells+then-seconds_b-cells}
use Rattle.comparing.proofs.Pair.new.Goals as goal

pub returns-then-seconds_a-cells-clause-number : goal.returns-then-seconds_a-cells-clause-number
returns-then-seconds_a-cells-clause-number c =
    unequal _ _ _ _
    (elim c.then-seconds_a-cells.branch [
      | then-seconds_a-cells-via-then-seconds_a-cells w ↦ λ a b d. w.if-seconds_a-cells.true a
      | then-seconds_a-cells-via-else-seconds_a-cells+then-firsts_b-cells w ↦ λ a b d. w.if-firsts_b-cells.true b
      | then-seconds_a-cells-via-else-seconds_a-cells+else-firsts_b-cells+then-seconds_b-cells w ↦ λ a b d. w.if-seconds_b-cells.true d
    ])

pub returns-then-cells-ne0-clause-number : goal.returns-then-cells-ne0-clause-number
returns-then-cells-ne0-clause-number c = unwhole _ _ _ _ c.if-seconds_a-cells.false c.if-firsts_b-cells.false c.if-seconds_b-cells.false c.if-cells-ne0.true

pub returns-clause-number : goal.returns-clause-number
returns-clause-number c = whole _ _ _ _ c.if-seconds_a-cells.false c.if-firsts_b-cells.false c.if-seconds_b-cells.false c.if-cells-ne0.false

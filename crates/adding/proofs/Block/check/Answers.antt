-- Each way out, by its case.
use mathlib.Core.Path.{sym, ◌∙◌}
use lib.Ieee.Bits.{is_true}
use Rattle.adding.proofs.Numbers.{number-length, number-disagrees, number-full, number-taken}
use Rattle.adding.proofs.Block.check.Goals.{then-totals-ne-TOTALS-via-then-totals-ne-TOTALS, then-totals-ne-TOTALS-via-else-totals-ne-TOTALS+then-not-agrees}
use Rattle.adding.proofs.Block.check.Goals as goal

pub returns-then-totals-ne-TOTALS-clause-number : goal.returns-then-totals-ne-TOTALS-clause-number
returns-then-totals-ne-TOTALS-clause-number c =
    let block = is_true _ c.args.self.received in
    elim c.then-totals-ne-TOTALS.branch [
      | then-totals-ne-TOTALS-via-then-totals-ne-TOTALS w ↦ sym (number-length _ _ block w.if-totals-ne-TOTALS.true)
      | then-totals-ne-TOTALS-via-else-totals-ne-TOTALS+then-not-agrees w ↦ sym (number-disagrees _ _ block (sym w.agrees.ensures ∙ w.if-not-agrees.true))
    ]

pub returns-then-not-has_room-clause-number : goal.returns-then-not-has_room-clause-number
returns-then-not-has_room-clause-number c =
    sym (number-full _ _ (is_true _ c.args.self.received) c.if-totals-ne-TOTALS.false (sym c.agrees.ensures ∙ c.if-not-agrees.false)
    (sym c.has_room.ensures ∙ c.if-not-has_room.true))

pub returns-clause-number : goal.returns-clause-number
returns-clause-number c =
    sym (number-taken _ _ (is_true _ c.args.self.received) c.if-totals-ne-TOTALS.false (sym c.agrees.ensures ∙ c.if-not-agrees.false)
    (sym c.has_room.ensures ∙ c.if-not-has_room.false))

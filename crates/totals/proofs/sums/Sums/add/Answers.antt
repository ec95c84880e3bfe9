-- What was taken is counted once where it is a block.
use Rattle.std.proofs.Common.{sym, ◌∙◌}
use Rattle.totals.proofs.Adding.{month-block, month-other}
use Rattle.totals.proofs.sums.Sums.add.Goals as goal

pub invariant_of-self-then-is_block : goal.invariant_of-self-then-is_block
invariant_of-self-then-is_block c = month-block c.self.invariant c.in_ok-add_to.ensures (sym c.is_block.ensures ∙ c.if-is_block.true)

pub invariant_of-self-else-is_block : goal.invariant_of-self-else-is_block
invariant_of-self-else-is_block c = month-other c.self.invariant c.in_ok-add_to.ensures (sym c.is_block.ensures ∙ c.if-is_block.false)

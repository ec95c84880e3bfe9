-- Nothing is added yet.
use Rattle.totals.proofs.Adding.{month-start}
use Rattle.totals.proofs.sums.Sums.new.Goals as goal

pub invariant_of-result : goal.invariant_of-result
invariant_of-result c = month-start

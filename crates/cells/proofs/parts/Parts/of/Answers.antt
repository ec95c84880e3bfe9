-- `Parts::of` meets its contract: the lists are those of the rules.
use Rattle.rules.specs.Points.{triple}
use Rattle.cells.proofs.Signs.{signed-new, sized_new}
use Rattle.cells.proofs.parts.Parts.of.Goals as goal

pub invariant_of-result : goal.invariant_of-result
unfolding triple
invariant_of-result c = record { by_sign = signed-new c.args.level; by_size = sized_new c.args.level }

-- The triple's own test.
use Rattle.std.proofs.Common.{ne_eqb}
use Rattle.rules.specs.Points.{triple}
use Rattle.ranges.proofs.sends.Goals as goal

pub returns-else-part_bits-eq1 : goal.returns-else-part_bits-eq1
unfolding triple
returns-else-part_bits-eq1 c = rw (← c.part_bits.ensures.0, ne_eqb _ _ c.if-part_bits-eq1.false)

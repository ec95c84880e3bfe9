-- `order::points` makes the table of its rule: every entry of POINTS is compared with the rule by computation.
use mathlib.Core.Path.{refl}
use Rattle.rules.specs.Kept.{count}
use Rattle.rules.specs.Cells.{point_at}
use Rattle.laws.specs.Filled.{holds-computed}
use Rattle.order.proofs.points.Goals as goal

pub of-requires : goal.of-requires
unfolding point_at count
of-requires c = holds-computed 500 point_at _ refl tt

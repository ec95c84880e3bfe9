-- `order::places` makes the table of its rule: every entry of PLACES is compared with the rule by computation.
use mathlib.Core.Path.{refl}
use Rattle.rules.specs.Kept.{next_kept, counter}
use Rattle.rules.specs.Cells.{place_of}
use Rattle.laws.specs.Filled.{holds-computed}
use Rattle.order.proofs.places.Goals as goal

pub of-requires : goal.of-requires
unfolding place_of next_kept counter
of-requires c = holds-computed 500 place_of _ refl tt

-- P1 to P12 of document 01, and what Req 01, 04 to 09 of document 02 name, hold of the rules as they are written.
use mathlib.Core.Path.{refl}
use lib.Ieee as Ieee
use Rattle.rules.specs.Examples.{Hold, examples, totals_examples}
use Rattle.rules.specs.Field.{◌⊗◌, double, times, alpha}
use Rattle.rules.specs.Outer.{generator, remainder}
use Rattle.rules.specs.Kept.{next_kept, counter, count}
use Rattle.rules.specs.Interleaver.{address}
use Rattle.rules.specs.Turbo.{state}
use Rattle.rules.specs.Slots.{both, scrambler_step, scrambler_state}
use Rattle.rules.specs.Modes.{mode, part_bits, slot_bits, packet_bits, slots}
use Rattle.rules.specs.Points.{triple, twice, sign_of, near_end, far_end, size_of, decide}
use Rattle.rules.specs.Cells.{place_of, point_at}
use Rattle.rules.specs.Profile.{first_repeat, fault, walk, written}
use Rattle.rules.specs.Compare.{differing, filled, comparing_number}
use Rattle.rules.specs.Totals.{counts, plus, fits, adding_number}

pub examples-hold : Hold examples
unfolding mode part_bits slot_bits packet_bits slots triple twice sign_of near_end far_end size_of ◌⊗◌ double times alpha generator remainder next_kept counter count address state both scrambler_step scrambler_state decide place_of point_at first_repeat fault walk written differing filled comparing_number Ieee.of_bits Ieee.to_bits Ieee.add Ieee.sub Ieee.mul Ieee.lt Ieee.eq Ieee.le Ieee.neg
examples-hold = (refl, (refl, (refl, (refl, (refl, (refl, (refl, (refl, (refl, (refl, (refl, (refl, (refl, (refl, (refl, (refl, (refl, (refl, (refl, (refl, (refl, (refl, (refl, (refl, (refl, (refl, (refl, (refl, (refl, (refl, (refl, (refl, (refl, (refl, (refl, (refl, (refl, (refl, (refl, (refl, (refl, (refl, (refl, (refl, (refl, (refl, (refl, (refl, (refl, (refl, (refl, (refl, (refl, (refl, (refl, (refl, (refl, (refl, (refl, (refl, (refl, (refl, (refl, (refl, (refl, (refl, (refl, (refl, (refl, (refl, (refl, (refl, (refl, (refl, (refl, (refl, (refl, (refl, (refl, (refl, (refl, (refl, (refl, (refl, (refl, (refl, (refl, (refl, (refl, (refl, (refl, (refl, (refl, (refl, (refl, (refl, (refl, (refl, (refl, tt)))))))))))))))))))))))))))))))))))))))))))))))))))))))))))))))))))))))))))))))))))))))))))))))))))

-- and the totals of Req 09
pub totals-examples-hold : Hold totals_examples
unfolding counts plus fits adding_number
totals-examples-hold = (refl, (refl, (refl, (refl, (refl, (refl, (refl, (refl, (refl, (refl, (refl, (refl, tt))))))))))))

-- The first i places are there.
use Rattle.laws.specs.Holds.{Holds}
use Rattle.laws.specs.Filled.{up_to}
use Rattle.patterns.specs.Places.{own_place}
use Rattle.patterns.proofs.own_places.Given as goal

abbrev pub invariant-loop-i : goal.invariant-loop-i
invariant-loop-i l = Holds 0 994 (up_to l.i (own_place l.mode) (λ k. 0)) l.place-items

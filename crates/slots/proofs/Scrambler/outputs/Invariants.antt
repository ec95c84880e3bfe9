-- The first i outputs are there.
use Rattle.rules.specs.Slots.{scrambling}
use Rattle.laws.specs.Holds.{Holds}
use Rattle.laws.specs.Filled.{up_to}
use Rattle.slots.proofs.Scrambler.outputs.Given as goal

abbrev pub invariant-loop-i : goal.invariant-loop-i
invariant-loop-i l = Holds 0 2000 (up_to l.i (scrambling l.fn.self.state l.fn.self.mask) (λ k. 0)) l.out

-- After i turns the first i outputs are there, and the state is the scrambler's after i steps.
use mathlib.Core.Path.{◌≡◌}
use Rattle.rules.specs.Slots.{scrambler_state, scrambling}
use Rattle.laws.specs.Holds.{Holds}
use Rattle.laws.specs.Filled.{up_to}
use Rattle.slots.proofs.Scrambler.first_outputs.Given as goal

abbrev pub invariant-loop-bit : goal.invariant-loop-bit
invariant-loop-bit l =
    Holds 0 20 (up_to l.bit-index (scrambling l.fn.self.state l.fn.self.mask) (λ k. 0)) l.bit-items
    × (l.scrambler.state ≡ scrambler_state l.fn.self.state l.bit-index)
    × (l.scrambler.mask ≡ l.fn.self.mask)

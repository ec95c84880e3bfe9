-- At the loop's head no slot before t repeats an earlier one.
use Rattle.rules.specs.Modes.{slots}
use Rattle.twins.proofs.Twins.{Searching}
use Rattle.twins.proofs.first_repeat.Given as goal

abbrev pub invariant-loop-t : goal.invariant-loop-t
invariant-loop-t l = Searching l.masks l.seeds (slots l.mode) l.t

-- At the loop's head the fields from i on decide, the first of them at a byte; after them twins.
use Rattle.profile.proofs.Walk.{Finding}
use Rattle.profile.proofs.fault.Given as goal

abbrev pub invariant-loop-field : goal.invariant-loop-field
invariant-loop-field l = Finding l.p l.at l.field-index

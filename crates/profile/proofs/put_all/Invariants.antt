-- At the loop's head, what is left to store gives all the bytes.
use Rattle.profile.proofs.Written.{Storing}
use Rattle.profile.proofs.put_all.Given as goal

abbrev pub invariant-loop-field : goal.invariant-loop-field
invariant-loop-field l = Storing l.initial.s l.p l.s l.at l.field-index

-- At the loop's head the walk from the field on, over what is left, answers.
use Rattle.std.proofs.Common.{◌≡◌}
use Rattle.profile.proofs.Walk.{Walking}
use Rattle.profile.proofs.read.Given as goal

abbrev pub invariant-loop-field : goal.invariant-loop-field
invariant-loop-field l = (l.reader.src.now ≡ l.bytes) × Walking l.bytes l.p l.reader.at l.field-index

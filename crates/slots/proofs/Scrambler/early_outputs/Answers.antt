-- The first i outputs are there.
use native.Mathlib.Omega.{arith}
use Rattle.rules.specs.Slots.{scrambling}
use Rattle.slots.proofs.Twice.{scrambling-lt}
use Rattle.slots.proofs.Recurrence.{recurrence, holds-front, holds-sum}
use Rattle.slots.proofs.Scrambler.early_outputs.Goals as goal

pub loop-i-init : goal.loop-i-init
loop-i-init c = holds-front (scrambling c.args.self.state c.args.self.mask) 20 80 _ (omega arith) (rw c.copy_from_slice.ensures.after c.first_outputs.ensures)

pub loop-i-preserved : goal.loop-i-preserved
loop-i-preserved c =
    let a = c.args in
    let l = c.loop-i in
    holds-sum _ _ 20 3 (scrambling-lt a.self.state a.self.mask) (recurrence a.self.state a.self.mask) (omega arith) l.i (omega arith) (omega arith) l.invariant

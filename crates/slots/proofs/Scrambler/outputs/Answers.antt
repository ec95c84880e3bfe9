-- The first i outputs are there.
use mathlib.Core.Path.{◌∙◌}
use native.Mathlib.Omega.{arith}
use Rattle.rules.specs.Slots.{scrambling}
use Rattle.laws.specs.Filled.{up_to-below}
use Rattle.slots.proofs.Twice.{scrambling-lt}
use Rattle.slots.proofs.Recurrence.{recurrence-4, holds-front, holds-sum}
use Rattle.slots.proofs.Scrambler.outputs.Goals as goal

pub loop-i-init : goal.loop-i-init
loop-i-init c = holds-front (scrambling c.args.self.state c.args.self.mask) 80 2000 _ (omega arith) (rw c.copy_from_slice.ensures.after c.early_outputs.ensures)

pub loop-i-preserved : goal.loop-i-preserved
loop-i-preserved c =
    let a = c.args in
    let l = c.loop-i in
    holds-sum _ _ 80 12 (scrambling-lt a.self.state a.self.mask) (recurrence-4 a.self.state a.self.mask) (omega arith) l.i (omega arith) (omega arith) l.invariant

pub returns : goal.returns
returns c k lt =
    let a = c.args in
    let l = c.loop-i in
    l.invariant.each k (omega arith) ∙ up_to-below (scrambling a.self.state a.self.mask) (λ n. 0) l.i k (omega arith)

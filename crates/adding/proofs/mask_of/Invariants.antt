-- At the loop's head the mask has the bits of the packets before p.
use mathlib.Core.Path.{◌≡◌}
use Prim.Native.Nat.{◌≤◌}
use Rattle.rules.specs.Bits.{row}
use Rattle.rules.specs.Block.{lost_mask}
use Rattle.adding.proofs.mask_of.Given as goal

abbrev pub invariant-loop-p : goal.invariant-loop-p
invariant-loop-p l = (l.p ≤ 16) × (l.lost ≡ lost_mask l.p (row l.fn.reasons))

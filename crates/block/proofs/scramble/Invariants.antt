-- `block::scramble` meets its contract. The loop's invariant: the slots before t are scrambled.
use Prim.Native.Nat.{◌*◌, ◌≤◌}
use lib.ListN.{length}
use Rattle.rules.specs.Bits.{row}
use Rattle.laws.specs.Holds.{Holds}
use Rattle.block.specs.Steps.{scrambled_row}
use Rattle.block.proofs.scramble.Given as goal

abbrev pub invariant-loop-t : goal.invariant-loop-t
invariant-loop-t l = (l.t ≤ l.n) × Holds 0 (length l.initial.bits) (scrambled_row l.b l.p.seeds l.p.masks (l.b * l.t) (row l.initial.bits)) l.bits

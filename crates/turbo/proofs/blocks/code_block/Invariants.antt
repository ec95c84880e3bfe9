-- `code_block` meets its contract. The loop's invariant: the packets before p are coded.
use Prim.Native.Nat.{◌*◌, ◌≤◌}
use Rattle.laws.specs.Holds.{Holds}
use Rattle.turbo.specs.Blocks.{coded_row}
use Rattle.turbo.proofs.blocks.code_block.Given as goal

abbrev pub invariant-loop-p : goal.invariant-loop-p
invariant-loop-p l = (l.p ≤ 16) × Holds 0 48000 (coded_row l.mode (l.n * l.p) l.block) l.bits

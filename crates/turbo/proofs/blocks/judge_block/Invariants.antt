-- The loop's invariant: the first p packets are judged.
use Prim.Native.Nat.{◌≤◌}
use Rattle.rules.specs.Bits.{row}
use Rattle.turbo.specs.Blocks.{WeighedTo}
use Rattle.turbo.proofs.blocks.judge_block.Given as goal

abbrev pub invariant-loop-p : goal.invariant-loop-p
invariant-loop-p l = (l.p ≤ 16) × WeighedTo l.p l.mode l.marks (row l.bits) l.lost l.reasons l.block

-- `hearing::read_block` meets its contract. The loop's invariant: the slots before t are read.
use Prim.Native.Nat.{◌*◌, ◌≤◌}
use Rattle.rules.specs.Bits.{row}
use Rattle.rules.specs.Modes.{slot_bits, slots}
use Rattle.rules.specs.Block.{in_block}
use Rattle.rules.specs.Pieces.{kept_bit}
use Rattle.laws.specs.Holds.{Holds}
use Rattle.laws.specs.Filled.{up_to}
use Rattle.hearing.proofs.read_block.Given as goal

abbrev pub invariant-loop-t : goal.invariant-loop-t
invariant-loop-t l =
    (l.t ≤ l.n) × Holds 0 (slot_bits l.mode * slots l.mode) (up_to (l.slot * l.t) (in_block l.mode (kept_bit l.mode (row l.cells))) (row l.initial.bits)) l.bits

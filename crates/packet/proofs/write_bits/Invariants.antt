-- The loop's invariant: the first i bits are written, and the others are as they were.
use Rattle.rules.specs.Bits.{row, byte_bit}
use Rattle.laws.specs.Holds.{Holds}
use Rattle.laws.specs.Filled.{up_to}
use lib.ListN.{length}
use Rattle.packet.proofs.write_bits.Given as goal

abbrev pub invariant-loop-i : goal.invariant-loop-i
invariant-loop-i l = Holds 0 (length l.initial.bits) (up_to l.i (byte_bit (row l.bytes)) (row l.initial.bits)) l.bits

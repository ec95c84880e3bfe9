-- Each bit is taken from its place: i of them are.
use Rattle.rules.specs.Bits.{row}
use Rattle.rules.specs.Modes.{packet_bits}
use Rattle.laws.specs.Holds.{Holds}
use Rattle.laws.specs.Filled.{up_to}
use Rattle.turbo.specs.Coded.{sent_from}
use Rattle.turbo.proofs.Encoder.send.Given as goal

abbrev pub invariant-loop-i : goal.invariant-loop-i
invariant-loop-i l = Holds 0 (packet_bits l.self.mode) (up_to l.i (sent_from l.self.mode (row l.all)) (row l.initial.out)) l.out

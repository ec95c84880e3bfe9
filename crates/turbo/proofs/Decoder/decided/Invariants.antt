-- Each bit is read at its place: i of them are.
use Rattle.rules.specs.Bits.{row}
use Rattle.rules.specs.Block.{decided_data}
use Rattle.laws.specs.Holds.{Holds}
use Rattle.laws.specs.Filled.{up_to}
use Rattle.turbo.proofs.Decoder.decided.Given as goal

abbrev pub invariant-loop-i : goal.invariant-loop-i
invariant-loop-i l = Holds 0 994 (up_to l.i (decided_data l.self.encoder.mode (row l.v)) (λ k. 0)) l.bit-items

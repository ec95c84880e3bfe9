-- i bits are compared.
use mathlib.Core.Path.{◌≡◌}
use Rattle.rules.specs.Bits.{row}
use Rattle.turbo.specs.Coded.{same_bits, sent_from}
use Rattle.turbo.proofs.Encoder.sends.Given as goal

abbrev pub invariant-loop-i : goal.invariant-loop-i
invariant-loop-i l = l.same ≡ same_bits l.i (row l.v) (sent_from l.self.mode (row l.all))

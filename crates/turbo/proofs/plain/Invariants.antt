-- Whether the first bits are plain.
use mathlib.Core.Path.{◌≡◌}
use Rattle.rules.specs.Bits.{row}
use Rattle.turbo.specs.Coded.{plain_bits}
use Rattle.turbo.proofs.plain.Given as goal

abbrev pub invariant-loop-bit : goal.invariant-loop-bit
invariant-loop-bit l = l.plain ≡ plain_bits l.bit-index (row l.v)

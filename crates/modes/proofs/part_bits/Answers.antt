-- The first two modes are QPSK's.
use native.Mathlib.Omega.{arith}
use Rattle.modes.proofs.Figures.{qpsk, qam}
use Rattle.modes.proofs.part_bits.Goals as goal

pub returns-then-counted-lt2 : goal.returns-then-counted-lt2
returns-then-counted-lt2 c = omega (arith, qpsk c.args.mode c.counted.result c.counted.ensures.0 (omega arith))

pub returns-else-counted-lt2 : goal.returns-else-counted-lt2
returns-else-counted-lt2 c = omega (arith, qam c.args.mode c.counted.result c.counted.ensures.0 (omega arith))

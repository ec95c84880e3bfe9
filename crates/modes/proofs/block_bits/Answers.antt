-- A block's packets fill its slots.
use native.Mathlib.Omega.{arith}
use Rattle.modes.proofs.Figures.{figures}
use Rattle.modes.proofs.block_bits.Goals as goal

pub returns : goal.returns
returns c = omega (arith, c.packet_bits.ensures.0, c.packet_bits.ensures.2, (figures c.args.mode).whole)

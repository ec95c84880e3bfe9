-- A slot has 1000 parts.
use native.Mathlib.Omega.{arith}
use Rattle.modes.proofs.Figures.{figures}
use Rattle.modes.proofs.slot_bits.Goals as goal

pub returns : goal.returns
returns c = omega (arith, c.part_bits.ensures.0, (figures c.args.mode).slot)

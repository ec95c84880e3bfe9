-- The tables are made, and there are as many bits as a packet of any mode has.
use mathlib.Core.Path.{ap}
use Rattle.rules.specs.Modes.{packet_bits}
use native.Mathlib.Omega.{arith}
use Rattle.modes.proofs.Figures.{figures}
use Rattle.turbo.proofs.judge.Goals as goal

pub judge-requires : goal.judge-requires
judge-requires c = omega (arith, (figures c.args.mode).most, ap packet_bits c.new.ensures)

-- One byte.
use mathlib.Core.Path.{sym}
use Rattle.profile.proofs.Values.{number-one}
use Rattle.profile.proofs.numbers.byte_of.Goals as goal

pub returns : goal.returns
returns c = sym (number-one c.args.s.now c.requires)

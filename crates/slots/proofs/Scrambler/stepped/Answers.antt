-- `Scrambler::stepped` meets its contract.
use mathlib.Core.Path.{refl}
use Rattle.rules.specs.Slots.{scrambler_step}
use Rattle.slots.proofs.Scrambler.stepped.Goals as goal

pub returns : goal.returns
unfolding scrambler_step
returns c = (refl, refl)

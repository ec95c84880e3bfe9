-- `inverse` answers `rule.inverse`, by the power that it is.
use Rattle.rules.specs.Field.{inverse}
use Rattle.field.proofs.Element.inverse.Goals as goal

pub returns : goal.returns
unfolding inverse
returns c = c.power.ensures

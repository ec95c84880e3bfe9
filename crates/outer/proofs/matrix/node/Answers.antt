-- A node is a power of α.
use mathlib.Core.Path.{sym, ◌∙◌}
use Rattle.field.proofs.Laws.{alpha-is}
use Rattle.outer.proofs.matrix.node.Goals as goal

pub returns : goal.returns
returns c = c.power.ensures ∙ sym (alpha-is _)

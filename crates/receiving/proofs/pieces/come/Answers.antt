-- A state has room for its count.
use mathlib.Core.Path.{sym, ◌∙◌}
use native.Mathlib.Omega.{arith}
use Rattle.receiving.proofs.States.{tells}
use Rattle.receiving.proofs.pieces.come.Goals as goal

pub seen-requires : goal.seen-requires
seen-requires c = omega (arith, (tells _ _ (sym c.is_state.ensures ∙ c.if-is_state.true)).long)

-- `power` answers `rule.power`: the answer, times the power of the square that is left, is the power.
use mathlib.Core.Path.{◌≡◌}
use Prim.Native.Nat.{◌<◌}
use Rattle.rules.specs.Field.{◌⊗◌, power}
use Rattle.field.proofs.Element.power.Given as goal

abbrev pub invariant-loop-left : goal.invariant-loop-left
invariant-loop-left l =
    (l.answer.0 < 256) × (l.answer.0 ⊗ power l.square.0 l.left ≡ power l.initial.square.0 l.k)

abbrev pub decreases-loop-left : goal.decreases-loop-left
decreases-loop-left l = l.left

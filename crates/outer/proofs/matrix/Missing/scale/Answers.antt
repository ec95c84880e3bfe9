-- One over the denominator, as the code has it.
use mathlib.Core.Path.{ap, ap₂, ◌∙◌}
use Prim.Native.Nat.{ℕ, ◌-◌, ◌/◌}
use Rattle.rules.specs.Field.{◌⊗◌, power, inverse}
use Rattle.outer.specs.Solve.{denominator}
use Rattle.outer.proofs.matrix.Missing.scale.Goals as goal

pub returns : goal.returns
unfolding denominator
returns c =
    let r : ℕ = c.args.parity.r in
    c.inverse.ensures
    ∙ ap inverse
    (c.mul.ensures
    ∙ ap₂ ◌⊗◌ c.product.ensures
    (c.power-weight.ensures ∙ ap (λ (x : ℕ). power x (128 - r / 2)) c.node.ensures))

-- The loop's invariant: the first j values have taken the coefficient.
use mathlib.Core.Path.{ap, ◌∙◌}
use Prim.Native.Nat.{ℕ}
use Rattle.rules.specs.Field.{◌⊕◌}
use Rattle.laws.specs.Filled.{holds-next, holds-whole, holds-new}
use native.Mathlib.Omega.{arith}
use Rattle.outer.proofs.solution.after.Goals as goal

pub loop-j-init : goal.loop-j-init
loop-j-init c = (omega arith, holds-new 8 _)

pub loop-j-preserved : goal.loop-j-preserved
loop-j-preserved c =
    let l = c.loop-j in
    (omega arith, holds-next _ _ 0 l.j _ (omega arith) (c.add.ensures ∙ ap (λ (y : ℕ). y ⊕ c.args.c) c.mul.ensures) l.invariant.1)

pub returns : goal.returns
returns c = let l = c.loop-j in holds-whole _ _ 0 l.j (omega arith) l.invariant.1

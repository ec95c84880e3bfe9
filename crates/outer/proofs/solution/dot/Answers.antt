-- The loop's invariant: v is the sum of the first j products.
use mathlib.Core.Path.{◌≡◌, refl, ap₂, ◌∙◌}
use native.Mathlib.Numerals.{add-one}
use Rattle.rules.specs.Field.{◌⊕◌}
use Rattle.outer.specs.Solve.{sum}
use native.Mathlib.Omega.{arith}
use Rattle.outer.proofs.solution.dot.Goals as goal

pub loop-j-init : goal.loop-j-init
unfolding sum
loop-j-init c = (omega arith, refl)

pub loop-j-preserved : goal.loop-j-preserved
unfolding sum
loop-j-preserved c =
    let l = c.loop-j in
    (omega arith, rw (add-one l.j) (c.add-v.ensures ∙ ap₂ ◌⊕◌ l.invariant.1 c.mul.ensures))

pub returns : goal.returns
returns c = let l = c.loop-j in let end : l.j ≡ c.args.parity.r = omega arith in rw end at l.invariant.1

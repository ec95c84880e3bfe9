-- The loop's invariant: v is the product over those packets below n.
use mathlib.Core.Path.{◌≡◌, refl, ap, ap₂, ◌∙◌}
use Prim.Native.Nat.{ℕ}
use native.Mathlib.Numerals.{add-one}
use Rattle.rules.specs.Field.{◌⊕◌, ◌⊗◌}
use Rattle.outer.specs.Solve.{other, product}
use native.Mathlib.Omega.{arith}
use Rattle.outer.proofs.matrix.Missing.product.Goals.{else-other, then-other}
use Rattle.outer.proofs.matrix.Missing.product.Goals as goal

pub loop-n-init : goal.loop-n-init
unfolding product
loop-n-init c = (omega arith, refl)

pub loop-n-preserved : goal.loop-n-preserved
unfolding product
loop-n-preserved c =
    let l = c.loop-n in
    let a = c.args in
    let x : ℕ = c.node-x.result.0 in
    let is = c.other.ensures in (
      omega arith,
      rw (add-one l.n)
          (elim c.if-other.branch [
            | then-other w ↦ ap (λ e. e.0) w.v-is ∙ w.mul-v.ensures ∙ ap₂ ◌⊗◌ (w.add.ensures ∙ ap (◌⊕◌ x) w.node.ensures) l.invariant.1 ∙ rw (← is, w.if-other.true)
            | else-other w ↦ ap (λ e. e.0) w.v-is ∙ rw (← is, w.if-other.false) l.invariant.1
          ]),
    )

pub returns : goal.returns
returns c =
    let l = c.loop-n in
    let a = c.args in
    let end : l.n ≡ 16 = omega arith in
    (rw end at l.invariant.1) ∙ ap (product (other a.self.lost a.self.p) 16) c.node-x.ensures

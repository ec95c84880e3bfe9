-- The loop's invariant: the first i bytes of the register are there.
use mathlib.Core.Path.{◌≡◌, ap, ap₂, ◌∙◌}
use Prim.Native.Nat.{◌<◌}
use native.Mathlib.Numerals.{add-one}
use Rattle.rules.specs.Bits.{row}
use Rattle.rules.specs.Field.{◌⊕◌, ◌⊗◌}
use Rattle.outer.specs.Steps.{below, divided}
use Rattle.laws.specs.Filled.{up_to-below, holds-next, holds-new}
use native.Mathlib.Omega.{arith}
use Rattle.outer.proofs.division.Parity.step.Goals as goal

pub loop-i-init : goal.loop-i-init
loop-i-init c = let a = c.args in (omega arith, holds-new 8 (divided a.self.r (row a.s) a.d))

pub loop-i-preserved : goal.loop-i-preserved
loop-i-preserved c =
    let l = c.loop-i in
    let a = c.args in
    let lt : l.i < 8 = omega arith in
    let stored : c.add.result.0 ≡ divided a.self.r (row a.s) a.d l.i =
    c.add.ensures
    ∙ ap₂ ◌⊕◌ (c.below.ensures ∙ ap (below a.self.r (row a.s)) (add-one l.i))
    (c.mul.ensures ∙ ap₂ ◌⊗◌ c.add-q.ensures (c.generator-g.ensures.each l.i lt)) in
    (omega arith, holds-next (divided a.self.r (row a.s) a.d) (λ k. 0) 0 l.i _ lt stored l.invariant.1)

pub returns : goal.returns
returns c =
    let l = c.loop-i in
    let a = c.args in
    λ i m. l.invariant.1.each i (omega arith) ∙ up_to-below (divided a.self.r (row a.s) a.d) (λ k. 0) l.i i (omega arith)

-- The loop's invariant: the first coefficients stand, and the last one of b is at hand.
use mathlib.Core.Path.{◌≡◌, refl, ap, ap₂, ◌∙◌}
use Prim.Native.Nat.{ℕ, ◌+◌, ◌-◌}
use borrow.Author.Tests.{ne_eqb}
use Rattle.rules.specs.Bits.{row}
use Rattle.rules.specs.Field.{◌⊕◌, ◌⊗◌}
use Rattle.laws.specs.Filled.{holds-first, holds-next, holds-whole, up_to-from}
use Rattle.outer.specs.Solve.{raised}
use native.Mathlib.Omega.{arith}
use Rattle.outer.proofs.matrix.grow.Invariants.{times-linear}
use Rattle.outer.proofs.matrix.grow.Goals as goal

raised-next : (f : ℕ → ℕ) (j : ℕ) → f j ≡ raised f (j + 1)
unfolding raised
raised-next f j = let e : j ≡ j + 1 - 1 = omega arith in rw (ne_eqb (j + 1) 0 (omega arith)) (ap f e)

pub loop-c-init : goal.loop-c-init
unfolding raised
loop-c-init c =
    let b = c.args.b.now in
    (omega arith, refl, holds-first (times-linear b c.args.a.0) (row b) 0 (record { long = omega arith; each = λ j lt. refl }))

pub loop-c-preserved : goal.loop-c-preserved
loop-c-preserved c =
    let l = c.loop-c in
    let b = c.args.b.now in
    let f = times-linear b c.args.a.0 in
    let here : row l.b l.c-index ≡ row b l.c-index = l.invariant.2.each l.c-index (omega arith) ∙ up_to-from f (row b) l.c-index l.c-index (omega arith) in
    let stored : c.add.result.0 ≡ f l.c-index =
    c.add.ensures ∙ ap₂ ◌⊕◌ l.invariant.1 (c.mul.ensures ∙ ap (◌⊗◌ c.args.a.0) here) in
    (omega arith, here ∙ raised-next (row b) l.c-index, holds-next f (row b) 0 l.c-index _ (omega arith) stored l.invariant.2)

pub returns : goal.returns
returns c =
    let l = c.loop-c in
    let b = c.args.b.now in
    holds-whole (times-linear b c.args.a.0) (row b) 0 l.c-index (omega arith) l.invariant.2

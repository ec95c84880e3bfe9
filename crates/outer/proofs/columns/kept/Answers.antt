-- The loop's invariant: the first p bytes are there, and zeros follow.
use mathlib.Core.Path.{sym, ap, ◌∙◌}
use mathlib.Core.Bool.{Bool}
use Prim.Native.Nat.{ℕ}
use Rattle.rules.specs.Bits.{pick}
use Rattle.rules.specs.Outer.{column}
use Rattle.outer.specs.Solve.{kept}
use Rattle.laws.specs.Filled.{holds-next, holds-skip, holds-whole, holds-new}
use native.Mathlib.Omega.{arith}
use Rattle.outer.proofs.columns.kept.Goals.{else-not-lost_at, then-not-lost_at}
use Rattle.outer.proofs.columns.kept.Goals as goal

pub loop-p-init : goal.loop-p-init
loop-p-init c = (omega arith, holds-new 16 (kept c.args.lost (column c.args.block.now c.args.j)))

pub loop-p-preserved : goal.loop-p-preserved
loop-p-preserved c =
    let l = c.loop-p in
    let a = c.args in
    let f = kept a.lost (column a.block.now a.j) in
    let is = c.lost_at.ensures in
    let here : Bool → ℕ = λ b. pick b 0 (column a.block.now a.j l.p) in (
      omega arith,
      elim c.if-not-lost_at.branch [ then-not-lost_at w ↦ rw w.c-is (holds-next f (λ k. 0) 0 l.p _ (omega arith) (sym (ap here (sym is ∙ w.if-not-lost_at.true))) l.invariant.1) | else-not-lost_at w ↦ rw w.c-is (holds-skip f (λ k. 0) 0 l.p (sym (ap here (sym is ∙ w.if-not-lost_at.false))) l.invariant.1) ],
    )

pub returns : goal.returns
returns c =
    let l = c.loop-p in
    let a = c.args in
    holds-whole (kept a.lost (column a.block.now a.j)) (λ k. 0) 0 l.p (omega arith) l.invariant.1

-- The loop's invariant: the first j powers are there, and the next one is at hand.
use mathlib.Core.Path.{◌≡◌, sym, ap, ◌∙◌}
use Prim.Native.Nat.{ℕ, ◌+◌, ◌-◌, ◌/◌}
use native.Mathlib.Numerals.{add-one}
use Rattle.rules.specs.Field.{◌⊗◌, alpha}
use Rattle.rules.specs.Outer.{root}
use Rattle.laws.specs.Filled.{holds-next, holds-whole, holds-new}
use Rattle.field.proofs.Laws.{alpha-is, alpha-lt, double-is}
use native.Mathlib.Omega.{arith}
use Rattle.outer.proofs.solution.roots.Goals as goal

root-next : (r j : ℕ) → 2 ⊗ root r j ≡ root r (j + 1)
unfolding alpha
root-next r j =
    let n : ℕ = 128 - r / 2 + j in
    let e : 128 - r / 2 + (j + 1) ≡ n + 1 = omega arith in
    sym (double-is (alpha n) (alpha-lt n)) ∙ rw (e, add-one n)

pub loop-x-init : goal.loop-x-init
loop-x-init c =
    let r : ℕ = c.args.parity.r in
    let e : 128 - r / 2 ≡ 128 - r / 2 + 0 = omega arith in
    (omega arith, c.power-power.ensures ∙ sym (alpha-is _) ∙ ap alpha e, holds-new 8 (root r))

pub loop-x-preserved : goal.loop-x-preserved
loop-x-preserved c =
    let l = c.loop-x in
    let r : ℕ = c.args.parity.r in (
      omega arith,
      c.mul-power.ensures ∙ ap (◌⊗◌ 2) l.invariant.1 ∙ root-next r l.x-index,
      holds-next (root r) (λ k. 0) 0 l.x-index _ (omega arith) l.invariant.1 l.invariant.2,
    )

pub returns : goal.returns
returns c =
    let l = c.loop-x in
    holds-whole (root c.args.parity.r) (λ k. 0) 0 l.x-index (omega arith) l.invariant.2

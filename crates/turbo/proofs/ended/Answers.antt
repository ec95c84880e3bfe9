-- `ended` writes the ends of two streams: before turn k, k elements of each.
use mathlib.Core.Path.{◌≡◌, refl, sym, ap, ◌∙◌}
use Prim.Native.Nat.{ℕ, ◌+◌}
use native.Mathlib.Numerals.{add-one}
use native.Mathlib.Omega.{arith}
use borrow.Author.Rules.{rules}
use Rattle.rules.specs.Bits.{row}
use Rattle.rules.specs.Turbo.{feedback, parity_of, shift}
use Rattle.turbo.specs.Within.{after_zeros}
use Rattle.turbo.proofs.Within.{both_stored, unfilled}
use Rattle.turbo.proofs.ended.Invariants.{last_x, last_y0}
use Rattle.turbo.proofs.ended.Goals as goal

later : (s k : ℕ) → after_zeros s (k + 1) ≡ shift 0 (after_zeros s k)
unfolding after_zeros
later s k = rw add-one

pub loop-k-init : goal.loop-k-init
unfolding after_zeros
loop-k-init c = (omega arith, refl, unfilled _ _ _ _ _ _ (search rules) (λ k lt. refl))

pub loop-k-preserved : goal.loop-k-preserved
loop-k-preserved c =
    let args = c.args in
    let l = c.loop-k in
    let p = c.last_period-p.ensures in (
      omega arith,
      p.register_is ∙ ap (shift 0) l.invariant.1 ∙ sym (later args.register.bits l.k),
      both_stored (args.base + 994) (args.base + 1991) l.k (args.base + 994 + l.k) (args.base + 1991 + l.k) _ _ (last_x args.register.bits)
          (last_y0 args.register.bits) (row args.all) refl refl (omega arith) (omega arith) (p.x_is ∙ ap feedback l.invariant.1)
          (p.y0_is ∙ ap (parity_of 0) l.invariant.1) l.invariant.2,
    )

pub returns : goal.returns
returns c =
    let l = c.loop-k in
    let all : l.k ≡ 3 = omega arith in
    rw all at l.invariant.2

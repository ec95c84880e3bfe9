-- At the loop's head the totals before i count the block, and the others are as they were.
use mathlib.Core.Path.{◌≡◌, sym, subst, ◌∙◌}
use mathlib.Core.Bool.{true, false}
use Prim.Native.Nat.{◌+◌}
use native.Mathlib.Omega.{arith}
use Rattle.rules.specs.Bits.{row}
use Rattle.rules.specs.Totals.{counts, plus}
use Rattle.laws.specs.Holds.{Holds}
use Rattle.laws.specs.Filled.{up_to, up_to-from, holds-next, holds-whole}
use Rattle.adding.proofs.Counting.{once_is, plus-at, fits-at, plus-holds}
use Rattle.adding.proofs.Block.raise.Invariants.{more}
use Rattle.adding.proofs.Block.raise.Goals.{else-rises, then-rises, After-rises}
use Rattle.adding.proofs.Block.raise.Goals as goal

-- total i is as it was
held : (c : After-rises) → row c.loop-i.totals c.loop-i.i ≡ row c.args.totals.now c.loop-i.i
held c =
    let l = c.loop-i in
    l.invariant.1.each l.i (omega arith) ∙ up_to-from (more c.args.totals.now c.args.self.receipt) (row c.args.totals.now) l.i l.i (omega arith)

pub overflow_add-total : goal.overflow_add-total
overflow_add-total c =
    let i = c.loop-i.i in
    let t = c.args.totals.now in
    let a = c.args.self.receipt in
    let rises : counts i a ≡ true = sym c.rises.ensures ∙ c.if-rises.true in
    record { fits = omega (arith, held (goal.at.overflow_add-total c).After-rises, fits-at (plus t a) c.requires.room i (omega arith), plus-at t a i (omega arith), once_is i a true rises) }

pub loop-i-preserved : goal.loop-i-preserved
loop-i-preserved c =
    let l = c.loop-i in
    let t = c.args.totals.now in
    let a = c.args.self.receipt in
    let counted = sym c.rises.ensures in
    let stood = held (goal.at.loop-i-preserved c).After-rises in (
      omega arith,
      elim c.if-rises.branch [
        | then-rises w ↦
            let rises : counts l.i a ≡ true = counted ∙ w.if-rises.true in
            subst (Holds 0 128 (up_to (l.i + 1) (more t a) (row t))) (sym w.totals-is)
            (holds-next (more t a) (row t) 0 l.i (row l.totals l.i + 1) (omega arith) (omega (arith, stood, once_is l.i a true rises)) l.invariant.1)
        | else-rises w ↦
            let stays : counts l.i a ≡ false = counted ∙ w.if-rises.false in
            subst (Holds 0 128 (up_to (l.i + 1) (more t a) (row t))) (sym w.totals-is)
            (holds-next (more t a) (row t) 0 l.i (row l.totals l.i) (omega arith) (omega (arith, stood, once_is l.i a false stays)) l.invariant.1)
      ],
    )

pub returns : goal.returns
returns c =
    let l = c.loop-i in
    let t = c.args.totals.now in
    let a = c.args.self.receipt in
    plus-holds t l.totals a 128 c.requires.long (holds-whole (more t a) (row t) 0 l.i (omega arith) l.invariant.1)

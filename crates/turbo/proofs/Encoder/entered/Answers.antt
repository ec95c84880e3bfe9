-- `entered` puts the two encoders' bits in place: before turn i, i of each.
use mathlib.Core.Path.{◌≡◌, refl, sym, ap, ◌∙◌}
use Prim.Native.Nat.{ℕ, ◌+◌}
use native.Mathlib.Nat.{zero-add}
use native.Mathlib.Omega.{arith}
use lib.ListN.{get_or-replicate}
use borrow.Author.Rules.{rules}
use Rattle.rules.specs.Bits.{row}
use Rattle.rules.specs.Interleaver.{table_d, interleaved}
use Rattle.rules.specs.Slots.{second}
use Rattle.interleaver.proofs.Interleaving.{interleaved5-lt}
use Rattle.turbo.proofs.Within.{both_stored, unfilled}
use Rattle.turbo.proofs.Encoder.entered.Goals.{After-from}
use Rattle.turbo.proofs.Encoder.entered.Goals as goal

-- the address that a turn reads
read : (c : After-from) → c.from.result ≡ interleaved 5 (row table_d) 994 c.loop-i.i
read c =
    c.from.ensures ∙ c.args.self.now.interleaves.each c.loop-i.i (omega arith)

pub loop-i-init : goal.loop-i-init
loop-i-init c = (omega arith, unfilled _ _ _ _ _ _ (search rules) (λ k lt. get_or-replicate {A = ℕ} 3988 k 0 0 lt))

pub bounds-x-from : goal.bounds-x-from
bounds-x-from c = rw (read (goal.at.bounds-x-from c).After-from) (interleaved5-lt c.loop-i.i (omega arith))

pub loop-i-preserved : goal.loop-i-preserved
loop-i-preserved c =
    let args = c.args in
    let l = c.loop-i in (
      omega arith,
      both_stored 0 1994 l.i l.i (1994 + l.i) _ _ (row args.x) (second (row args.x)) (λ k. 0) (sym (zero-add l.i)) refl
          (omega arith) (omega arith) refl (ap (row args.x) (read (goal.at.loop-i-preserved c).After-from)) l.invariant.1,
    )

pub returns : goal.returns
returns c =
    let l = c.loop-i in
    let all : l.i ≡ 994 = omega arith in
    rw all at l.invariant.1

-- `encoded` fills in the four streams: before turn i, i parities of both encoders and their registers' states are there.
use mathlib.Core.Path.{◌≡◌, refl, sym, ap, ap₂, ◌∙◌}
use Prim.Native.Nat.{ℕ, ◌+◌}
use native.Mathlib.Omega.{arith}
use borrow.Author.Rules.{rules}
use Rattle.rules.specs.Bits.{row}
use Rattle.rules.specs.Turbo.{parity_of, shift, entering, state, y0}
use Rattle.laws.specs.Holds.{Holds, holds_as}
use Rattle.turbo.specs.Streams.{stream}
use Rattle.turbo.specs.Within.{from, with_ends}
use Rattle.turbo.proofs.Within.{within-before, within-after, both_stored, unfilled}
use Rattle.turbo.proofs.Filling.{state-next, both-streams}
use Rattle.turbo.proofs.encoded.Invariants.{walked}
use Rattle.turbo.proofs.encoded.Goals.{In-loop-i}
use Rattle.turbo.proofs.encoded.Goals as goal

-- the bits that a turn reads are still those that were handed in
first_read : (c : In-loop-i) → row c.loop-i.s c.loop-i.i ≡ row c.args.all c.loop-i.i
first_read c =
    let l = c.loop-i in
    l.invariant.3.each l.i (omega arith) ∙ within-before 997 l.i _ _ l.i (omega arith) ∙ within-before 2991 l.i _ _ l.i (omega arith)

second-read : (c : In-loop-i)
    → row c.loop-i.s (1994 + c.loop-i.i) ≡ row c.args.all (1994 + c.loop-i.i)
second-read c =
    let l = c.loop-i in
    l.invariant.3.each (1994 + l.i) (omega arith) ∙ within-after 997 l.i _ _ (1994 + l.i) (omega arith)
    ∙ within-before 2991 l.i _ _ (1994 + l.i) (omega arith)

pub loop-i-init : goal.loop-i-init
unfolding state
loop-i-init c =
    (omega arith, c.new-first.ensures, c.new-second.ensures, unfilled _ _ _ _ _ _ (search rules) (λ k lt. refl))

pub data_period-p-requires : goal.data_period-p-requires
data_period-p-requires c = rw (first_read (goal.at.data_period-p-requires c).In-loop-i) (c.requires c.loop-i.i)

pub data_period-q-requires : goal.data_period-q-requires
data_period-q-requires c =
    rw (second-read (goal.at.data_period-q-requires c).In-loop-i) (c.requires (1994 + c.loop-i.i))

pub loop-i-preserved : goal.loop-i-preserved
loop-i-preserved c =
    let l = c.loop-i in
    let g : ℕ → ℕ = row c.args.all in
    let p = c.data_period-p.ensures in
    let q = c.data_period-q.ensures in (
      omega arith,
      p.register_is ∙ ap₂ (λ (b s : ℕ). shift (entering b s) s) (first_read (goal.at.loop-i-preserved c).In-loop-i) l.invariant.1 ∙ sym (state-next g l.i),
      q.register_is ∙ ap₂ (λ (b s : ℕ). shift (entering b s) s) (second-read (goal.at.loop-i-preserved c).In-loop-i) l.invariant.2 ∙ sym (state-next (from g 1994) l.i),
      both_stored 997 2991 l.i (997 + l.i) (2991 + l.i) _ _ (y0 g) (y0 (from g 1994)) g refl refl (omega arith) (omega arith)
          (p.y0_is ∙ ap₂ (λ (b s : ℕ). parity_of (entering b s) s) (first_read (goal.at.loop-i-preserved c).In-loop-i) l.invariant.1)
          (q.y0_is ∙ ap₂ (λ (b s : ℕ). parity_of (entering b s) s) (second-read (goal.at.loop-i-preserved c).In-loop-i) l.invariant.2) l.invariant.3,
    )

pub returns : goal.returns
returns c =
    let first_ended = c.ended-s in
    let l = c.loop-i in
    let g : ℕ → ℕ = row c.args.all in
    let all : l.i ≡ 994 = omega arith in
    let filled : Holds 0 3988 (walked 994 g) l.s = rw all at l.invariant.3 in
    let first-came : l.first.bits ≡ state g 994 = rw all at l.invariant.1 in
    let second-came : l.second.bits ≡ state (from g 1994) 994 = rw all at l.invariant.2 in
    holds_as 0 (stream g (from g 1994))
    (λ k lt.
    ap (λ (s : ℕ). with_ends 1994 s (row first_ended.result) k) second-came
    ∙ both-streams g (row l.s) (row first_ended.result) filled.each
    (λ j below. first_ended.ensures.each j below ∙ ap (λ (s : ℕ). with_ends 0 s (row l.s) j) first-came) k lt)
    c.ended.ensures

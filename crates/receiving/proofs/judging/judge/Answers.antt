-- The bits are unscrambled, the packets judged, and the outer code has the last word.
use mathlib.Core.Path.{refl, sym, subst}
use Prim.Native.Nat.{ℕ}
use Rattle.rules.specs.Outer.{column}
use Rattle.rules.specs.Block.{Delivered}
use Rattle.profile.proofs.InRange.{ranges}
use Rattle.block.proofs.Scrambling.{scrambled-block}
use Rattle.receiving.proofs.Judgement.{weighed-judged, scrambled-judged}
use Rattle.receiving.proofs.judging.judge.Goals as goal

pub deliver-requires : goal.deliver-requires
deliver-requires c =
    ((ranges c.args.p c.requires.0).k, c.requires.1)

pub returns : goal.returns
returns c =
    let a = c.args in
    let plain = scrambled-block a.p.mode a.p.seeds a.p.masks a.bits _ c.well_formed.1.1.0.1.0.1 c.scramble.ensures in
    scrambled-judged a.p a.marks a.bits _ plain
    (weighed-judged a.p a.marks _ c.judge_block-v.result.block c.judge_block-v.ensures
    (subst (λ (n : ℕ). Delivered a.p.k c.judge_block-v.result.lost (λ p j. column c.judge_block-v.result.block j p) a.«data».now c.deliver.new.«data» n)
    (sym c.number_of.ensures) c.deliver.ensures)
    refl)

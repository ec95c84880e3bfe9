-- Each bit is read at its place: i of them are.
use mathlib.Core.Path.{ap, ◌∙◌}
use native.Mathlib.Omega.{arith}
use Rattle.rules.specs.Bits.{row}
use Rattle.rules.specs.Block.{decided_data}
use Rattle.laws.specs.Filled.{holds-new, holds-next, holds-whole}
use Rattle.turbo.proofs.Modes.{own-read-lt}
use Rattle.turbo.proofs.Decoder.decided.Goals as goal

pub loop-i-init : goal.loop-i-init
loop-i-init c = holds-new 994 (decided_data c.args.self.now.encoder.mode (row c.args.v.now))

pub bounds-v-from : goal.bounds-v-from
bounds-v-from c =
    let d = c.args.self.now in
    omega (arith, c.from.ensures, own-read-lt d.encoder.mode d.own d.placed c.loop-i.i (omega arith))

pub loop-i-preserved : goal.loop-i-preserved
loop-i-preserved c =
    let d = c.args.self.now in
    let l = c.loop-i in
    let v = row c.args.v.now in
    holds-next (decided_data d.encoder.mode v) (λ k. 0) 0 l.i _ (omega arith)
    (ap v (c.from.ensures ∙ d.placed.each l.i (omega arith))) l.invariant

pub returns : goal.returns
returns c =
    let l = c.loop-i in
    holds-whole (decided_data c.args.self.now.encoder.mode (row c.args.v.now)) (λ k. 0) 0 l.i (omega arith) l.invariant

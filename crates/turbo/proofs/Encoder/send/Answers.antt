-- Each bit is taken from its place: i of them are.
use mathlib.Core.Path.{refl, ap, ◌∙◌}
use native.Mathlib.Omega.{arith}
use Rattle.rules.specs.Bits.{row}
use Rattle.laws.specs.Filled.{holds-first, holds-next, holds-whole}
use Rattle.modes.proofs.Figures.{figures}
use Rattle.turbo.specs.Coded.{sent_from}
use Rattle.turbo.proofs.Modes.{place_read, place-read-lt}
use Rattle.turbo.proofs.Encoder.send.Goals as goal

pub loop-i-init : goal.loop-i-init
loop-i-init c = holds-first _ _ 0 (record { long = c.requires; each = λ k lt. refl })

pub bounds-self-i : goal.bounds-self-i
bounds-self-i c = omega (arith, (figures c.args.self.now.mode).most)

pub bounds-all-from : goal.bounds-all-from
bounds-all-from c =
    let e = c.args.self.now in
    rw c.from.ensures (place-read-lt e.mode e.places e.placed c.loop-i.i (omega arith))

pub loop-i-preserved : goal.loop-i-preserved
loop-i-preserved c =
    let l = c.loop-i in
    let e = c.args.self.now in
    holds-next (sent_from e.mode (row c.args.all)) _ 0 l.i _ (omega arith)
    (ap (row c.args.all) (c.from.ensures ∙ place_read e.mode e.places e.placed l.i (omega arith))) l.invariant

pub returns : goal.returns
returns c =
    let l = c.loop-i in
    holds-whole _ _ 0 l.i (omega (arith, l.invariant.long)) l.invariant

-- `own_places` works them out one after the other.
use mathlib.Core.Path.{◌∙◌}
use native.Mathlib.Omega.{arith}
use Rattle.laws.specs.Filled.{holds-new, holds-next, holds-whole}
use Rattle.patterns.specs.Places.{own_place}
use Rattle.patterns.proofs.Modes.{rate-quarters, rate-own}
use Rattle.patterns.proofs.own_places.Goals as goal

pub loop-i-init : goal.loop-i-init
loop-i-init c = holds-new 994 (own_place c.args.mode)

pub own_place-requires : goal.own_place-requires
own_place-requires c =
    let q = rate-quarters c.args.mode c.rate-rate.result c.rate-rate.ensures c.packet_bits-rows.result
    c.packet_bits-rows.ensures.0 in
    (q.0, q.1, omega arith)

pub loop-i-preserved : goal.loop-i-preserved
loop-i-preserved c =
    let l = c.loop-i in
    let mode = c.args.mode in
    holds-next (own_place mode) (λ k. 0) 0 l.i _ (omega arith) (c.own_place.ensures.0 ∙ rate-own mode c.rate-rate.result c.rate-rate.ensures l.i) l.invariant

pub returns : goal.returns
returns c = let l = c.loop-i in holds-whole (own_place c.args.mode) (λ k. 0) 0 l.i (omega arith) l.invariant

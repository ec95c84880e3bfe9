-- At the loop's head no slot before u is t's twin, and u is of t's symbol.
use Rattle.std.proofs.Common.{◌≡◌, sym, ◌∙◌, arith}
use Rattle.twins.proofs.Twins.{look_found}
use Rattle.twins.proofs.first_like.Goals as goal

pub returns-then-are_alike : goal.returns-then-are_alike
returns-then-are_alike c =
    (look_found _ _ c.loop-u.invariant (λ lt. sym c.are_alike.ensures ∙ c.if-are_alike.true), c.loop-u.invariant.within)

pub returns : goal.returns
returns c =
    let over : c.args.t ≡ c.loop-u.u = omega (arith, c.loop-u.invariant.within) in
    (over ∙ look_found _ _ c.loop-u.invariant (λ lt. absurd (omega arith)), omega arith)

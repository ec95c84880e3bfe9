-- At the loop's head no slot before t repeats an earlier one.
use Rattle.std.proofs.Common.{◌≡◌, ◌∙◌, subst, ℕ, ◌<◌, arith}
use Rattle.twins.proofs.Twins.{search_found}
use Rattle.twins.proofs.first_repeat.Goals as goal

pub returns-then-u-t : goal.returns-then-u-t
returns-then-u-t c =
    let turn = c.loop-t in
    (search_found _ _ turn.invariant (λ lt. subst (λ (u : ℕ). u < turn.t) c.first_like-u.ensures.0 c.if-u-t.true), turn.invariant.within)

pub returns : goal.returns
returns c =
    let n = c.slot_count-n.ensures in
    let turn = c.loop-t in
    let over : c.slot_count-n.result ≡ turn.t = omega (arith, n.0, turn.invariant.within) in
    (over ∙ search_found _ _ turn.invariant (λ lt. absurd (omega (arith, n.0))), omega (arith, n.0))

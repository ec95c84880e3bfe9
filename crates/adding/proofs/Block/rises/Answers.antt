-- Each arm against what the total counts.
use mathlib.Core.Path.{◌≡◌, sym, ap, ◌∙◌}
use Prim.Native.Nat.{ℕ, ◌+◌, ◌-◌, ◌%◌}
use native.Mathlib.Omega.{arith}
use lib.Dec.{eqb}
use borrow.Author.Rules.{rules}
use borrow.Author.Tests.{eq-eqb, ne_eqb, tests}
use Rattle.adding.proofs.Counting.{counts-accepted, counts-restored, counts-undelivered, counts-reason}
use Rattle.adding.proofs.Block.rises.Goals as goal

pub returns-in-0 : goal.returns-in-0
returns-in-0 c = sym (counts-accepted _ _ c.args.self.received c.in-0.is)

pub returns-then-reason-ne0 : goal.returns-then-reason-ne0
returns-then-reason-ne0 c = sym (counts-restored _ _ c.in-1.is ∙ rw (ne_eqb _ _ c.if-reason-ne0.true))

pub returns-else-reason-ne0 : goal.returns-else-reason-ne0
returns-else-reason-ne0 c = sym (counts-restored _ _ c.in-1.is ∙ rw (eq-eqb _ _ c.if-reason-ne0.false))

pub returns-in-9 : goal.returns-in-9
returns-in-9 c = sym (counts-undelivered _ _ c.in-2.is ∙ rw (ne_eqb _ _ c.if-reason-ne0-2.true) (search (rules, tests)))

pub returns-in_default-matches : goal.returns-in_default-matches
returns-in_default-matches c = sym (counts-undelivered _ _ c.in-2.is ∙ rw (ne_eqb _ _ c.if-reason-ne0-2.true) (search (rules, tests)))

pub returns-else-reason-ne0-2 : goal.returns-else-reason-ne0-2
returns-else-reason-ne0-2 c = sym (counts-undelivered _ _ c.in-2.is ∙ rw (eq-eqb _ _ c.if-reason-ne0-2.false))

pub returns-in_default : goal.returns-in_default
returns-in_default c =
    let i = c.args.i in
    let k : ℕ = i % 8 - 3 in
    let e : i % 8 ≡ 3 + k = omega arith in
    let same : 11 + k ≡ i % 8 + 8 = omega (arith, e) in
    sym (counts-reason _ _ k c.args.self.received e (omega (arith, e)) ∙ ap (eqb _) same)

-- At the loop's head the walk from the field on, over what is left, answers.
use Rattle.std.proofs.Common.{ap, refl, rules}
use Rattle.laws.specs.Refused.{refusal-not-zero, passed_on}
use Rattle.rules.specs.Answers.{Answer}
use Rattle.profile.proofs.Walk.{place_at, walk_refused, walk_more, walk-surplus, walk-twins, walk-done}
use Rattle.profile.proofs.read.Goals as goal

pub returns-in_err-taken : goal.returns-in_err-taken
returns-in_err-taken c =
    let turn = c.loop-field in
    rw (passed_on c.from_residual.result c.from_residual.ensures.1)
    (walk_refused turn.invariant.1 (search rules)
    (rw (place_at _ turn.field-index (search rules), turn.invariant.0) at c.in_err-taken.ensures) (refusal-not-zero _))

pub loop-field-preserved : goal.loop-field-preserved
loop-field-preserved c =
    let turn = c.loop-field in (
      rw c.moved-reader.ensures.0 turn.invariant.0,
      rw c.moved-reader.ensures.1
          (walk_more turn.invariant.1 (search rules)
          (rw (place_at _ turn.field-index (search rules), turn.invariant.0) at c.in_ok-taken.ensures) refl),
    )

pub returns-in_err-ending : goal.returns-in_err-ending
returns-in_err-ending c =
    let turn = c.loop-field in
    rw (passed_on c.from_residual-in_err-ending.result c.from_residual-in_err-ending.ensures.1)
    (walk-surplus turn.invariant.1 (search rules) refl (rw turn.invariant.0 at c.in_err-ending.ensures) (refusal-not-zero _))

pub returns-in_err-twin_fault : goal.returns-in_err-twin_fault
returns-in_err-twin_fault c =
    let turn = c.loop-field in
    rw (passed_on c.from_residual-in_err-twin_fault.result c.from_residual-in_err-twin_fault.ensures.1)
    (walk-twins turn.invariant.1 (search rules) (ap (λ (a : Answer). a.number) (rw turn.invariant.0 at c.in_ok-ending.ensures)) refl
    c.in_err-twin_fault.ensures (refusal-not-zero _))

pub returns : goal.returns
returns c =
    let turn = c.loop-field in
    walk-done turn.invariant.1 (search rules) (ap (λ (a : Answer). a.number) (rw turn.invariant.0 at c.in_ok-ending.ensures)) refl
    c.in_ok-twin_fault.ensures refl

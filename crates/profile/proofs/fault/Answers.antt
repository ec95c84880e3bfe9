-- At the loop's head the fields from i on decide, the first of them at a byte; after them twins.
use Rattle.std.proofs.Common.{◌∙◌, refl, rules}
use Rattle.laws.specs.Refused.{refusal-not-zero, passed_answer}
use Rattle.profile.proofs.Walk.{place_at, find-bad, find-more, find-done}
use Rattle.profile.proofs.fault.Goals as goal

pub returns-in_err-fault : goal.returns-in_err-fault
returns-in_err-fault c =
    let turn = c.loop-field in
    passed_answer _ _ c.from_residual.ensures.1
    (find-bad turn.invariant (search rules) (rw (place_at _ turn.field-index (search rules)) at c.in_err-fault.ensures) (refusal-not-zero _))

pub loop-field-preserved : goal.loop-field-preserved
loop-field-preserved c =
    let turn = c.loop-field in
    find-more turn.invariant (search rules) (rw (place_at _ turn.field-index (search rules)) at c.in_ok-fault.ensures) refl _
    (rw (place_at _ turn.field-index (search rules)) at c.due.ensures.0) c.due.ensures.1

pub returns : goal.returns
returns c = c.twin_fault.ensures ∙ find-done c.loop-field.invariant (search rules)

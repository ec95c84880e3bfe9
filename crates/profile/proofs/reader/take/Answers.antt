-- Judged by its header, then by its value.
use Rattle.std.proofs.Common.{ℕ, ◌∙◌, ap, sym, refl, drop}
use Rattle.laws.specs.Refused.{refusal-not-zero, passed_on}
use Rattle.rules.specs.Answers.{Answer}
use Rattle.profile.specs.Fields.{place_of, heading}
use Rattle.profile.proofs.Walk.{Judged, taken_not, taken-bad, taken-good}
use Rattle.profile.proofs.reader.take.Goals.{After-judge}
use Rattle.profile.proofs.reader.take.Goals as goal

judged : (c : After-judge)
    → let a = c.args in
    Judged a.s.now a.p a.at (place_of a.field) c.due-due.result (heading c.tag.result c.due-due.result (drop a.at a.s.now))
judged c =
    let a = c.args in
    record { length_due = c.due-due.ensures.0; says = ap (λ (t : ℕ). heading t c.due-due.result (drop a.at a.s.now)) c.tag.ensures }

pub returns-in_err-judge : goal.returns-in_err-judge
returns-in_err-judge c =
    rw (passed_on c.from_residual.result c.from_residual.ensures.1, c.in_err-judge.ensures)
    (taken_not (judged (goal.at.returns-in_err-judge c).After-judge)
    (λ z. refusal-not-zero _ (ap (λ (a : Answer). a.number) c.in_err-judge.ensures ∙ z)))

pub returns-in_err-fault : goal.returns-in_err-fault
returns-in_err-fault c =
    rw (passed_on c.from_residual-in_err-fault.result c.from_residual-in_err-fault.ensures.1)
    (taken-bad (judged (goal.at.returns-in_err-fault c).After-judge) (sym (ap (λ (a : Answer). a.number) c.in_ok-judge.ensures))
    c.with_value-profile.ensures c.in_err-fault.ensures (refusal-not-zero _))

pub returns : goal.returns
returns c =
    taken-good (judged (goal.at.returns c).After-judge) (sym (ap (λ (a : Answer). a.number) c.in_ok-judge.ensures))
    c.with_value-profile.ensures c.in_ok-fault.ensures refl

-- A value with a number out of its range is refused; of any other, the stored bytes and zeros after them.
use Rattle.std.proofs.Common.{sym, ap, rules, arith}
use Rattle.laws.specs.Refused.{refusal-not-zero, passed_on}
use Rattle.rules.specs.Profile.{Shape}
use Rattle.rules.specs.Answers.{Answer}
use Rattle.profile.proofs.Written.{written-most, writing-done, writing-not}
use Rattle.profile.proofs.write.Goals.{Start}
use Rattle.profile.proofs.write.Goals as goal

shaped : (c : Start) → Shape c.args.p
shaped c = record { masks = search rules; level = search rules; seeds = search rules; floor = search rules }

pub returns-in_err-fault : goal.returns-in_err-fault
returns-in_err-fault c =
    rw (passed_on c.from_residual.result c.from_residual.ensures.1) (writing-not c.args.p c.in_err-fault.ensures (refusal-not-zero _))

pub put_all-count-requires : goal.put_all-count-requires
put_all-count-requires c = written-most c.args.p (shaped (goal.at.put_all-count-requires c).Start)

pub invariant_of-result : goal.invariant_of-result
invariant_of-result c =
    omega (arith, c.put_all-count.ensures.0, written-most c.args.p (shaped (goal.at.invariant_of-result c).Start))

pub returns : goal.returns
returns c =
    writing-done c.args.p (shaped (goal.at.returns c).Start) _ _ (sym (ap (λ (a : Answer). a.number) c.in_ok-fault.ensures))
    c.put_all-count.ensures.0 c.put_all-count.ensures.1

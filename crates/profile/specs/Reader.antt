-- What taking a field at a position answers.
use Rattle.std.specs.Prelude.{Result, Ok, Err, List, ℕ, ◌+◌, eqb, take, drop}
use Rattle.rules.specs.Bits.{pick}
use Rattle.rules.specs.Profile.{only, fault_of}
use Rattle.rules.specs.Answers.{Answer, refusal_answer}
use Rattle.rules.specs.declared.Profile.{Profile}
use Rattle.rules.specs.declared.Refusal.{Refusal}
use Rattle.profile.specs.Fields.{field, heading}
use Rattle.profile.specs.declared.reader.Taken.{Taken}

-- the answer, and the position and the profile that hold after it
pub record Step : Type 0 where
  pub answer : Answer
  pub at : ℕ
  pub profile : Profile

-- a refusal leaves the position and the profile as they were
abbrev pub refused_at : Answer → ℕ → Profile → Step
refused_at a at p = record { answer = a; at = at; profile = p }

abbrev pub step_of : ℕ → Profile → Result Taken Refusal → Step
step_of at p (Ok t) = record { answer = only 0; at = t.at; profile = t.profile }
step_of at p (Err e) = refused_at (refusal_answer e) at p

-- Field i at a position of s, after what p holds: the number of its header's refusal, what is at fault in its value, else the position after it and the
-- profile with its value
unfoldable pub taken : ℕ → Profile → List ℕ → ℕ → Step
taken i p s at =
    let due = (field i).due p in
    let n = heading (i + 1) due (drop at s) in
    let q = (field i).with p (take due (drop (at + 3) s)) in
    let a = fault_of (field i) at q in
    pick (eqb n 0) (pick (eqb a.number 0) (record { answer = a; at = at + 3 + due; profile = q }) (refused_at a at p)) (refused_at (only n) at p)

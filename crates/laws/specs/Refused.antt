-- A refusal has a number that is never 0, also where a call passes it on.
use Rattle.std.specs.Prelude.{◌≡◌, Result, Err}
use Rattle.std.specs.Result.{IsErrAnd}
use Rattle.std.proofs.Common.{ap, ◌∙◌, arith}
use Rattle.std.proofs.lemmas.Result.{err_from_is_err_and}
use Rattle.rules.specs.declared.Refusal.{Refusal}
use Rattle.rules.specs.declared.Refusal.TheVariants.{EndsInField, WrongTag, WrongLength, EndsBetweenFields, WrongData, WrongCells, OutsideGrid, TooManyLost, NoCodeword, PastEnd, Unfinished, UnequalGrids, FullTotal, NoSuchState, Disagreement, Mask, Level, Mode, K, Seed, Floor, Twins}
use Rattle.rules.specs.Answers.{Answer, refusal_number, refusal_answer, answer_of}

pub refusal-not-zero : (e : Refusal) → refusal_number e ≡ 0 → ⊥
refusal-not-zero EndsInField z = omega arith
refusal-not-zero WrongTag z = omega arith
refusal-not-zero WrongLength z = omega arith
refusal-not-zero EndsBetweenFields z = omega arith
refusal-not-zero WrongData z = omega arith
refusal-not-zero WrongCells z = omega arith
refusal-not-zero OutsideGrid z = omega arith
refusal-not-zero TooManyLost z = omega arith
refusal-not-zero NoCodeword z = omega arith
refusal-not-zero PastEnd z = omega arith
refusal-not-zero Unfinished z = omega arith
refusal-not-zero UnequalGrids z = omega arith
refusal-not-zero FullTotal z = omega arith
refusal-not-zero NoSuchState z = omega arith
refusal-not-zero Disagreement z = omega arith
refusal-not-zero (Mask at) z = omega arith
refusal-not-zero (Level at) z = omega arith
refusal-not-zero (Mode at) z = omega arith
refusal-not-zero (K at) z = omega arith
refusal-not-zero (Seed at) z = omega arith
refusal-not-zero (Floor at) z = omega arith
refusal-not-zero (Twins slot) z = omega arith

-- the refusal that a `?` passes on is the one that came
pub passed_on : {A : Type 0} {e : Refusal} (r : Result A Refusal) → IsErrAnd r (λ d. d ≡ e) → r ≡ Err e
passed_on r h = let p = err_from_is_err_and r h in p.1 ∙ ap Err p.2

-- so what holds of its answer is what is answered
pub passed_answer : {A : Type 0} {a : Answer} (e : Refusal) (r : Result A Refusal) → IsErrAnd r (λ d. d ≡ e) → refusal_answer e ≡ a → answer_of r ≡ a
passed_answer e r h f = ap answer_of (passed_on r h) ∙ f

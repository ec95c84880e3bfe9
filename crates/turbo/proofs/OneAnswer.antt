-- Coding and judging a packet can't lawfully answer in two ways: from two answers by the rule, the same answer and the same bits or bytes.
use mathlib.Core.Path.{◌≡◌, refl, sym, ap, ◌∙◌}
use Rattle.std.specs.Prelude.{List, ⊤, Result, Ok, Err}
use Prim.Native.Nat.{ℕ}
use native.Mathlib.Decide.{ℕ_discrete}
use lib.Dec.{eqb}
use Rattle.rules.specs.Bits.{pick}
use Rattle.rules.specs.Answers.{coding_number}
use Rattle.rules.specs.declared.CodingError.{CodingError}
use Rattle.rules.specs.declared.CodingError.TheVariants.{WrongMode, WrongLength}
use Rattle.rules.specs.declared.Reason.{Reason}
use Rattle.rules.specs.declared.Reason.TheVariants.{Marked, Doubtful, CheckWord, Reserved, Coded}
use Rattle.rules.specs.Answers.{Judgement, judgement_of}
use Rattle.laws.specs.Holds.{holds_one}
use Rattle.turbo.specs.Coded.{CodingRule, JudgingRule}

-- an answer goes by its number
coding-of : ℕ → Result ⊤ CodingError
coding-of n = pick (eqb n 0) (Ok tt) (pick (eqb n 42) (Err WrongMode) (Err WrongLength))

numbered : (a : Result ⊤ CodingError) → coding-of (coding_number a) ≡ a
unfolding coding-of
numbered (Ok x) = refl
numbered (Err WrongMode) = refl
numbered (Err WrongLength) = refl

pub one-coding : (m : ℕ) (d before after after' : List ℕ) (a a' : Result ⊤ CodingError)
    → CodingRule m d before after a
    → CodingRule m d before after' a'
    → (a ≡ a') × (after ≡ after')
one-coding m d before after after' a a' x y = (sym (numbered a) ∙ ap coding-of same ∙ numbered a', go (ℕ_discrete (coding_number a) 0))
  where
    same : coding_number a ≡ coding_number a'
    same = x.answer ∙ sym y.answer

    go : Dec (coding_number a ≡ 0) → after ≡ after'
    go (yes z) = holds_one 0 (x.bits z) (y.bits (sym same ∙ z))
    go (no ne) = x.kept ne ∙ sym (y.kept (λ z. ne (same ∙ z)))

pub one-judging : (m : ℕ) (v : ℕ → ℕ) (a a' : Judgement) → JudgingRule m v a → JudgingRule m v a' → a ≡ a'
one-judging m v a a' x y = λ i. record { reason = same i; bytes = go (ℕ_discrete a.reason 0) i }
  where
    same : a.reason ≡ a'.reason
    same = x.reason_is ∙ sym y.reason_is

    go : Dec (a.reason ≡ 0) → a.bytes ≡ a'.bytes
    go (yes z) = holds_one 0 (x.accepted z) (y.accepted (sym same ∙ z))
    go (no ne) = x.refused ne ∙ sym (y.refused (λ z. ne (same ∙ z)))

-- ---- the judgement that is answered tells the result

reason-of : ℕ → Reason
reason-of n = pick (eqb n 11) Marked (pick (eqb n 12) Doubtful (pick (eqb n 13) CheckWord (pick (eqb n 14) Reserved Coded)))

judged-of : Judgement → Result (List ℕ) Reason
judged-of j = pick (eqb j.reason 0) (Ok j.bytes) (Err (reason-of j.reason))

judged-told : (r : Result (List ℕ) Reason) → judged-of (judgement_of r) ≡ r
unfolding judged-of reason-of
judged-told (Ok bytes) = refl
judged-told (Err Marked) = refl
judged-told (Err Doubtful) = refl
judged-told (Err CheckWord) = refl
judged-told (Err Reserved) = refl
judged-told (Err Coded) = refl

pub one-judged : (m : ℕ) (v : ℕ → ℕ) (r r' : Result (List ℕ) Reason) → JudgingRule m v (judgement_of r) → JudgingRule m v (judgement_of r') → r ≡ r'
one-judged m v r r' x y = sym (judged-told r) ∙ ap judged-of (one-judging m v _ _ x y) ∙ judged-told r'

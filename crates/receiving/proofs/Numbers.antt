-- The answer that comes before any judgement, and the receipts by it.
use mathlib.Core.Path.{◌≡◌, ◌∙◌, ap}
use mathlib.Core.List.{List}
use Prim.Native.Nat.{ℕ}
use Rattle.rules.specs.Block.{silence, Judged, Answered}
use Rattle.rules.specs.Answers.{Answer}
use Rattle.rules.specs.declared.Profile.{Profile}
use Rattle.rules.specs.declared.Receipt.{Receipt}

module _ (P : Profile) (marks : ℕ) (first : Answer) (v : ℕ → ℕ) (before after : List ℕ) (a : Receipt) where
  pub answered-refused : (n : Answer) → n ≡ first → ¬ (n.number ≡ 0) → a ≡ silence n → after ≡ before → Answered P marks first v before after a
  answered-refused n e ne is kept =
      record { refused = λ _. (is ∙ ap silence e, kept); judged = λ z. absurd (ne (ap (λ (x : Answer). x.number) e ∙ z)) }

  pub answered-judged : first.number ≡ 0 → Judged P marks v before after a → Answered P marks first v before after a
  answered-judged e j = record { refused = λ ne. absurd (ne e); judged = λ _. j }

-- One symbol of each grid is never refused, and has no more differences than cells.
use Rattle.std.proofs.Common.{◌≡◌, ◌∙◌, refl, subst, List, ℕ, ◌≤◌, arith, length}
use Rattle.std.specs.Prelude.{Result, Ok, Err, IsOk}
use Rattle.rules.specs.declared.Refusal.{Refusal}
use Rattle.rules.specs.Compare.{Grids, Comparison, CompareRule, comparison_of, differing}
use Rattle.rules.specs.Demands.{Symbols}
use Rattle.laws.specs.Refused.{refusal-not-zero}
use Rattle.comparing.proofs.SideBySide.{symbols-number, differing-few}

module _ {from : ℕ} {G : Grids} {before after : List ℕ} where
  module _ {a : Comparison} (one : Symbols G 1) (rule : CompareRule from G before after a) where
    pub counted : a.count ≡ length (differing G)
    counted = (rule.compared (rule.number ∙ symbols-number G 1 one)).0

    pub count-few : a.count ≤ 4096
    count-few = omega (arith, counted, differing-few G, one.0)

  pub done : (r : Result ℕ Refusal) → Symbols G 1 → CompareRule from G before after (comparison_of r) → IsOk r
  done (Ok n) one rule = refl
  done (Err e) one rule = absurd (refusal-not-zero e (rule.number ∙ symbols-number G 1 one))

  -- the count that it answers
  pub found : (r : Result ℕ Refusal) (n : ℕ) → r ≡ Ok n → Symbols G 1 → CompareRule from G before after (comparison_of r)
      → (n ≡ length (differing G)) × (n ≤ 4096)
  found r n e one rule =
      let said : CompareRule from G before after (comparison_of (Ok n)) =
      subst (λ (s : Result ℕ Refusal). CompareRule from G before after (comparison_of s)) e rule in
      (counted one said, count-few one said)

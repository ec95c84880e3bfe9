-- `place` goes by the rate, of which the three arms say the same.
use mathlib.Core.Path.{◌≡◌, refl, sym, ap, subst, ◌∙◌}
use Prim.Native.Nat.{ℕ, ◌<◌}
use Rattle.rules.specs.Turbo.{coded_length}
use Rattle.rules.specs.declared.Rate.{Rate}
use Rattle.rules.specs.declared.Rate.TheVariants.{Half, Third, TwoThirds}
use Rattle.patterns.specs.Places.{place}
use Rattle.patterns.proofs.Rates.{place-lt, by-tables}
use Rattle.patterns.proofs.place.Goals as goal

-- what an arm asks, and what it answers, where the rate is R'
module _ (R R' : Rate) (n : ℕ) (is : R ≡ R') (lt : n < coded_length R 994) where
  asked : n < coded_length R' 994
  asked = subst (λ (S : Rate). n < coded_length S 994) is lt

  answered : (r : ℕ) → (n < coded_length R' 994 → r ≡ place R' n) → (r ≡ place R n) × (r < 3988)
  answered r e =
      let there = e asked ∙ ap (λ (S : Rate). place S n) (sym is) in
      (there, rw there (place-lt R n lt))

pub returns-in-Half : goal.returns-in-Half
returns-in-Half c =
    answered _ _ _ c.in-Half.is c.requires _ (λ lt. c.place.ensures ∙ by-tables Half _ _ _ _ refl refl refl tt tt c.args.n lt)

pub returns-in-Third : goal.returns-in-Third
returns-in-Third c =
    answered _ _ _ c.in-Third.is c.requires _ (λ lt. c.place-in-Third.ensures ∙ by-tables Third _ _ _ _ refl refl refl tt tt c.args.n lt)

pub returns-in-TwoThirds : goal.returns-in-TwoThirds
returns-in-TwoThirds c =
    answered _ _ _ c.in-TwoThirds.is c.requires _
    (λ lt. c.place-in-TwoThirds.ensures ∙ by-tables TwoThirds _ _ _ _ refl refl refl tt tt c.args.n lt)

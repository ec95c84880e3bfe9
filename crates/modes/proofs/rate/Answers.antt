-- By the mode that the number counts as.
use mathlib.Core.Path.{◌≡◌, refl}
use mathlib.Core.Logic.{⊎_elim}
use Prim.Native.Nat.{ℕ}
use native.Mathlib.Decide.{ℕ_discrete}
use native.Mathlib.Omega.{arith}
use Rattle.rules.specs.Modes.{mode, rate}
use Rattle.rules.specs.declared.Rate.TheVariants.{Half}
use Rattle.modes.proofs.Figures.{rate-counted}
use Rattle.modes.proofs.rate.Goals as goal

pub returns-in-0 : goal.returns-in-0
unfolding mode
returns-in-0 c =
    rw (rate-counted _ _ c.counted.ensures.0)
    (⊎_elim (λ (e : c.counted.result ≡ 0). rw e refl) (λ (e : c.counted.result ≡ 2). rw e refl) c.in-0.is)

pub returns-in-4 : goal.returns-in-4
unfolding mode
returns-in-4 c = rw (rate-counted _ _ c.counted.ensures.0, c.in-4.is) refl

pub returns-in_default : goal.returns-in_default
unfolding mode
returns-in_default c =
    let k = c.counted.result in
    rw (rate-counted _ _ c.counted.ensures.0) (go k (ℕ_discrete k 1) (grind arith))
  where
    go : (k : ℕ) → Dec (k ≡ 1) → (¬ (k ≡ 1) → k ≡ 3) → Half ≡ rate k
    go k (yes e) other = rw e refl
    go k (no ne) other = rw (other ne) refl

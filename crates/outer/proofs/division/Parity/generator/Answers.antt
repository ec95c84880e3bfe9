-- The code's bytes are the generator's: computed, byte by byte.
use mathlib.Core.Path.{◌≡◌, refl, sym, subst}
use Prim.Native.Nat.{ℕ}
use borrow.Author.Tests.{ne_eqb}
use Rattle.rules.specs.Field.{alpha, double}
use Rattle.rules.specs.Outer.{generator}
use Rattle.laws.specs.Holds.{Holds, holds_as}
use Rattle.laws.specs.Filled.{holds-computed}
use Rattle.outer.proofs.division.Parity.generator.Goals as goal

-- the rule has that of 2 for every other r
rest : (r : ℕ) → ¬ (r ≡ 8) → ¬ (r ≡ 4) → (i : ℕ) → generator 2 i ≡ generator r i
unfolding generator
rest r a b i = rw (ne_eqb r 8 a, ne_eqb r 4 b)

pub returns-in-8 : goal.returns-in-8
unfolding generator alpha double
returns-in-8 c = subst (λ (r : ℕ). Holds 0 8 (generator r) _) (sym c.in-8.is) (holds-computed 8 (generator 8) _ refl tt)

pub returns-in-4 : goal.returns-in-4
unfolding generator alpha double
returns-in-4 c = subst (λ (r : ℕ). Holds 0 8 (generator r) _) (sym c.in-4.is) (holds-computed 8 (generator 4) _ refl tt)

pub returns-in_default : goal.returns-in_default
unfolding generator alpha double
returns-in_default c =
    let r = c.args.self.r in
    holds_as 0 (generator r) (λ i lt. rest r c.in_default.in_default-own.rest.0.1 c.in_default.in_default-own.rest.1 i) (holds-computed 8 (generator 2) _ refl tt)

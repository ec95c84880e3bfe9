-- What `all` answers, as a test of each number below 16.
use mathlib.Core.Path.{◌≡◌, sym, subst}
use mathlib.Core.Bool.{Bool, true, false}
use mathlib.Core.List.{List}
use Prim.Native.Nat.{ℕ, ◌<◌}
use native.Mathlib.Omega.{arith}
use lib.Dec.{T}
use lib.Ieee.Bits.{is_true}
use lib.ListN.{length}
use Rattle.std.proofs.Common.{rules, tests}
use Rattle.std.specs.Bool.{MatchBool}
use Rattle.std.specs.List.{AllWithin, HoldsAt}
use Rattle.std.proofs.lemmas.Iterator.{cases_from_all, YieldsList-from_slice}
use Rattle.rules.specs.Bits.{row, every_below}
use Rattle.rules.specs.Answers.{is_reason}
use Rattle.laws.specs.Every.{every_of, every-fails}
use Rattle.adding.proofs.are_reasons.Goals.{After-all}
use Rattle.adding.proofs.are_reasons.Goals as goal

all-pass : (f : ℕ → Bool) (l : List ℕ) (n : ℕ) (r : Bool) → length l ≡ n
    → MatchBool r (AllWithin (λ x. f x ≡ true) l 0 (length l)) ((k : ℕ) × (k < length l) × HoldsAt (λ x. f x ≡ false) l k)
    → r ≡ every_below n (λ p. f (row l p))
all-pass f l n true e all =
    sym (is_true (every_below n (λ p. f (row l p))) (every_of n (λ p. f (row l p)) (λ i lt. subst T (sym (all i 0 (omega arith) (omega (arith, e)))) tt)))
all-pass f l n false e some = sym (every-fails n (λ p. f (row l p)) some.0 (omega (arith, e, some.1)) (some.2 0))

long : (c : After-all) → length c.args.reasons ≡ 16
long c = search rules

pub returns : goal.returns
returns c =
    all-pass is_reason c.args.reasons 16 c.all.result (long c)
    (cases_from_all _ _ _ (λ x. is_reason x ≡ true) (λ x. is_reason x ≡ false) c.all.ensures.ran (YieldsList-from_slice c.args.reasons (cc)) (λ x q k. search (rules, tests)) (λ x q k. search (rules, tests)))

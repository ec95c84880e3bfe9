-- The members of a set of packets are counted one way only, and the ones of a mask that names the set are as many.
use mathlib.Core.Path.{◌≡◌, refl, ap, subst}
use mathlib.Core.Logic.{◌↔◌}
use Prim.Native.Nat.{ℕ, zero, suc, ◌+◌, ◌^◌, ◌<◌}
use native.Mathlib.Decide.{ℕ_discrete}
use native.Mathlib.Omega.{arith}
use lib.Count.{ones}
use Rattle.rules.specs.Outer.{marked}
use Rattle.rules.specs.Demands.{Members}
use Rattle.outer.specs.Solve.{tally}
use Rattle.outer.proofs.Ones.{ones-count}

module _ (S : ℕ → Type 0) where
  pub members-one : {n c c' : ℕ} → Members S n c → Members S n c' → c ≡ c'
  members-one Members.none Members.none = refl
  members-one (Members.member n c s m) (Members.member n' c' s' m') = ap suc (members-one m m')
  members-one (Members.member n c s m) (Members.other n' c' ns m') = absurd (ns s)
  members-one (Members.other n c ns m) (Members.member n' c' s m') = absurd (ns s)
  members-one (Members.other n c ns m) (Members.other n' c' ns' m') = members-one m m'

  module _ (mask : ℕ) where
    members-tally : (n : ℕ) → ((p : ℕ) → p < n → (marked mask p ≡ 1) ↔ S p) → Members S n (tally (marked mask) n)
    unfolding tally
    members-tally zero names = Members.none
    members-tally (suc n) names = go (ℕ_discrete (marked mask n) 1) (members-tally n (λ p h. names p (omega arith)))
      where
        go : Dec (marked mask n ≡ 1) → Members S n (tally (marked mask) n) → Members S (suc n) (tally (marked mask) n + marked mask n)
        go (yes e) before =
            let c : suc (tally (marked mask) n) ≡ tally (marked mask) n + marked mask n = omega arith in
            subst (Members S (suc n)) c (Members.member n (tally (marked mask) n) ((names n (omega arith)).0 e) before)
        go (no ne) before =
            let c : tally (marked mask) n ≡ tally (marked mask) n + marked mask n = omega arith in
            subst (Members S (suc n)) c (Members.other n (tally (marked mask) n) (λ s. ne ((names n (omega arith)).1 s)) before)

    pub members-ones : mask < 2 ^ 16 → ((p : ℕ) → p < 16 → (marked mask p ≡ 1) ↔ S p) → Members S 16 (ones mask)
    members-ones fits names = rw (ones-count 16 mask fits) (members-tally 16 names)

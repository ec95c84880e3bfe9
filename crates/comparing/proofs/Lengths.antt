-- The lengths of the four lists, and what they give.
use mathlib.Core.Path.{◌≡◌, refl}
use mathlib.Core.Bool.{Bool, true, false, not, ◌&&◌}
use Prim.Native.Nat.{ℕ, ◌%◌}
use native.Mathlib.Omega.{arith}
use lib.Dec.{T, eqb, eqb→eq}
use lib.Ieee.Fits.{and_l, and_r}
use borrow.Author.Tests.{eq-eqb, ne_eqb}
use Rattle.rules.specs.Bits.{pick}
use Rattle.rules.specs.Compare.{one_length, comparing_number}

pub one-length : (fa sa fb sb : ℕ) → T (one_length fa sa fb sb) → (sa ≡ fa) × (fb ≡ fa) × (sb ≡ fa)
one-length fa sa fb sb t =
    let rest = and_r (eqb sa fa) (eqb fb fa && eqb sb fa) t in
    (eqb→eq sa fa (and_l (eqb sa fa) (eqb fb fa && eqb sb fa) t), eqb→eq fb fa (and_l (eqb fb fa) (eqb sb fa) rest), eqb→eq sb fa (and_r (eqb fb fa) (eqb sb fa) rest))

module _ (fa sa fb sb : ℕ) where
  pub unequal : ((sa ≡ fa) → (fb ≡ fa) → (sb ≡ fa) → ⊥) → 18 ≡ comparing_number fa sa fb sb
  unfolding comparing_number
  unequal other = go (one_length fa sa fb sb) refl
    where
      go : (b : Bool) → one_length fa sa fb sb ≡ b → 18 ≡ pick {A = ℕ} (not b) 18 (pick (not (eqb (fa % 4096) 0)) 7 0)
      go false e = refl
      go true e = let each = one-length fa sa fb sb (rw e tt) in absurd (other each.0 each.1 each.2)

  module _ (a : sa ≡ fa) (b : fb ≡ fa) (d : sb ≡ fa) where
    pub unwhole : ¬ (fa % 4096 ≡ 0) → 7 ≡ comparing_number fa sa fb sb
    unfolding comparing_number
    unwhole ne = rw (eq-eqb sa fa a, eq-eqb fb fa b, eq-eqb sb fa d, ne_eqb (fa % 4096) 0 ne)

    pub whole : fa % 4096 ≡ 0 → 0 ≡ comparing_number fa sa fb sb
    unfolding comparing_number
    whole e = rw (eq-eqb sa fa a, eq-eqb fb fa b, eq-eqb sb fa d, eq-eqb (fa % 4096) 0 e)

number_passed : (b c : Bool) → ◌≡◌ {A = ℕ} (pick (not b) 18 (pick (not c) 7 0)) 0 → T b × T c
number_passed true true e = (tt, tt)
number_passed true false e = absurd (omega (arith, e))
number_passed false c e = absurd (omega (arith, e))

-- what is not refused: lists of one length, of whole symbols
pub compared-lengths : (fa sa fb sb : ℕ) → comparing_number fa sa fb sb ≡ 0 → T (one_length fa sa fb sb) × (fa % 4096 ≡ 0)
unfolding comparing_number
compared-lengths fa sa fb sb e =
    let t = number_passed (one_length fa sa fb sb) (eqb (fa % 4096) 0) e in
    (t.0, eqb→eq (fa % 4096) 0 t.1)

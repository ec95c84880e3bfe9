-- Decisions as the code makes them.
use mathlib.Core.Path.{◌≡◌, refl, sym, ◌∙◌}
use mathlib.Core.Bool.{Bool, true, false, ◌&&◌, ◌||◌}
use Prim.Native.Nat.{ℕ, ◌+◌, ◌*◌, ◌%◌, ◌^◌, ◌<◌, ◌≤◌, min}
use native.Mathlib.Decide.{ℕ_discrete, dec_lt}
use native.Mathlib.Omega.{arith}
use Rattle.std.proofs.Math.Nat.{min-eq_left, min-eq_right}
use Rattle.rules.specs.Pieces.{choices}
use lib.Dec.{ltb}
use lib.Ieee.{Float, neg, lt}
use Rattle.rules.specs.Bits.{pick}
use Rattle.rules.specs.Points.{near_end, far_end, sign_of, size_of, size_and_sign, decide}
use Rattle.laws.specs.Filled.{pick-lt, pick-ge}
use Rattle.deciding.specs.Deciding.{sign_or}

-- of one bit a part's decision is its sign
pub decide-one : (w : ℕ) (level floor a : Float) → w ≡ 1 → sign_or 2 floor a ≡ decide w level floor a
unfolding decide sign_of
decide-one w level floor a e = rw e

module _ (level floor a : Float) where
  -- twice the size, and the sign with 4 for a doubtful one
  abbrev sum : ℕ
  sum = 2 * size_of level floor a + sign_or 4 floor a

  number : pick (ltb 4 sum) 4 sum ≡ decide 2 level floor a
  unfolding decide size_of sign_of
  number =
      go (lt (far_end level floor) a || lt a (neg (far_end level floor))) (lt (neg (near_end level floor)) a && lt a (near_end level floor)) (lt floor a)
      (lt a (neg floor))
    where
      go : (p q r s : Bool)
          → (let n = 2 * pick p 0 (pick q 1 2) + pick r 0 (pick s 1 4) in pick (ltb 4 n) 4 n)
          ≡ size_and_sign (pick p 0 (pick q 1 2)) (pick r 0 (pick s 1 2))
      go true q true s = refl
      go true q false true = refl
      go true q false false = refl
      go false true true s = refl
      go false true false true = refl
      go false true false false = refl
      go false false true s = refl
      go false false false true = refl
      go false false false false = refl

  pub decide-min : min sum 4 ≡ decide 2 level floor a
  decide-min = go (dec_lt 4 sum)
    where
      go : Dec (4 < sum) → min sum 4 ≡ decide 2 level floor a
      go (yes h) = min-eq_right (omega arith) ∙ sym (pick-lt 4 sum 4 sum h) ∙ number
      go (no h) = min-eq_left (omega arith) ∙ sym (pick-ge 4 sum 4 sum (omega arith)) ∙ number

-- two decisions in a byte, as the code makes it
pub cell-fits : (w a b : ℕ) → 1 ≤ w → w ≤ 2 → a < choices w → b < choices w
    → ((1 * 2 ^ w % 256 + 1) * b < 256) × (a + (1 * 2 ^ w % 256 + 1) * b < 256)
cell-fits w a b l m p q = go (ℕ_discrete w 1)
  where
    go : Dec (w ≡ 1) → ((1 * 2 ^ w % 256 + 1) * b < 256) × (a + (1 * 2 ^ w % 256 + 1) * b < 256)
    go (yes e) =
        let p' : a < choices 1 = rw e at p in
        let q' : b < choices 1 = rw e at q in
        rw e (omega arith, omega arith)
    go (no n) =
        let e : w ≡ 2 = omega arith in
        let p' : a < choices 2 = rw e at p in
        let q' : b < choices 2 = rw e at q in
        rw e (omega arith, omega arith)

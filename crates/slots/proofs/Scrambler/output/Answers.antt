-- `slots::Scrambler::output` meets its contract: the ones of state AND mask are the places where both have one.
use mathlib.Core.Path.{◌≡◌, ◌∙◌, ap, ap₂}
use Prim.Native.Nat.{ℕ, zero, suc, ◌+◌, ◌*◌, ◌/◌, ◌%◌, ◌^◌, ◌<◌, min}
use native.Mathlib.Nat.{pow-suc}
use native.Mathlib.Omega.{arith}
use lib.Bits.{bit_and, and_step}
use lib.Count.{ones, ones_step}
use Rattle.rules.specs.Slots.{both}
use Rattle.slots.proofs.Scrambler.output.Goals as goal

low : (a b : ℕ) → bit_and a b % 2 ≡ min (a % 2) (b % 2)
low a b = omega (arith, and_step a b)

high : (a b : ℕ) → bit_and a b / 2 ≡ bit_and (a / 2) (b / 2)
high a b = omega (arith, and_step a b)

half_lt : (k : ℕ) {a : ℕ} → a < 2 ^ suc k → a / 2 < 2 ^ k
half_lt k {a} h = let e : 2 ^ suc k ≡ 2 ^ k * 2 = pow-suc 2 k in omega arith

ones-both : (w a b : ℕ) → a < 2 ^ w → ones (bit_and a b) ≡ both w a b
unfolding both ones
ones-both zero a b h = let e : a ≡ 0 = omega arith in rw e
ones-both (suc w) a b h =
    ones_step (bit_and a b) ∙ ap₂ (λ (x y : ℕ). x + ones y) (low a b) (high a b)
    ∙ ap (λ (x : ℕ). min (a % 2) (b % 2) + x) (ones-both w (a / 2) (b / 2) (half_lt w h))

pub returns : goal.returns
returns c = ap (λ (x : ℕ). x % 2) (ones-both 20 c.args.self.state c.args.self.mask c.args.self.small)

-- The scrambler sees only the lowest 20 bits of its seed.
use mathlib.Core.Path.{◌≡◌, refl, sym, ◌∙◌, ap, ap₂}
use Prim.Native.Nat.{ℕ, zero, suc, ◌+◌, ◌*◌, ◌/◌, ◌%◌, ◌^◌, min}
use native.Mathlib.Nat.{div-add-mod'}
use native.Mathlib.Omega.{arith}
use lib.Bits.{block_half, block_odd}
use Rattle.rules.specs.Slots.{scrambler_step, scrambler_state, both, scrambling}

both-block : (w a r b : ℕ) → both w (a * 2 ^ w + r) b ≡ both w r b
unfolding both
both-block zero a r b = refl
both-block (suc w) a r b =
    ap₂ (λ (x y : ℕ). min x (b % 2) + both w y (b / 2)) (block_odd a w r) (block_half a w r)
    ∙ ap (λ (x : ℕ). min (r % 2) (b % 2) + x) (both-block w a (r / 2) (b / 2))

step_block : (a r : ℕ) → scrambler_step (a * 2 ^ 20 + r) ≡ scrambler_step r
unfolding scrambler_step
step_block a r = ap₂ (λ (x y : ℕ). x + y) doubled fed
  where
    doubled : (a * 2 ^ 20 + r) * 2 % 2 ^ 20 ≡ r * 2 % 2 ^ 20
    doubled = omega arith

    high : (a * 2 ^ 20 + r) / 2 ^ 19 ≡ a * 2 + r / 2 ^ 19
    high = omega arith

    low : (a * 2 ^ 20 + r) / 2 ^ 16 ≡ a * 16 + r / 2 ^ 16
    low = omega arith

    even : (x y : ℕ) → (a * 2 + x + (a * 16 + y)) % 2 ≡ (x + y) % 2
    even x y = omega arith

    fed : ((a * 2 ^ 20 + r) / 2 ^ 19 + (a * 2 ^ 20 + r) / 2 ^ 16) % 2 ≡ (r / 2 ^ 19 + r / 2 ^ 16) % 2
    fed = ap₂ (λ (x y : ℕ). (x + y) % 2) high low ∙ even (r / 2 ^ 19) (r / 2 ^ 16)

-- so what goes by blocks of 2 ^ w goes by the w lowest bits
low_bits : (w : ℕ) (f : ℕ → ℕ) → ((a r : ℕ) → f (a * 2 ^ w + r) ≡ f r) → (s : ℕ) → f (s % 2 ^ w) ≡ f s
low_bits w f e s = sym (e (s / 2 ^ w) (s % 2 ^ w)) ∙ ap f (div-add-mod' s (2 ^ w))

-- from the first step on the state is the same
state-low : (seed i : ℕ) → scrambler_state (seed % 2 ^ 20) (suc i) ≡ scrambler_state seed (suc i)
unfolding scrambler_state
state-low seed zero = low_bits 20 scrambler_step step_block seed
state-low seed (suc i) = ap scrambler_step (state-low seed i)

pub scrambling-low : (seed mask i : ℕ) → scrambling (seed % 2 ^ 20) mask i ≡ scrambling seed mask i
unfolding scrambler_state
scrambling-low seed mask zero =
    low_bits 20 (λ s. both 20 s mask % 2) (λ a r. ap (λ (x : ℕ). x % 2) (both-block 20 a r mask)) seed
scrambling-low seed mask (suc i) = ap (λ (s : ℕ). both 20 s mask % 2) (state-low seed i)

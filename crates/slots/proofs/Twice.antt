-- The scrambler's bounds, and that adding its output twice gives the bits back.
use mathlib.Core.Path.{◌≡◌, ◌∙◌}
use Prim.Native.Nat.{ℕ, zero, suc, ◌+◌, ◌%◌, ◌^◌, ◌<◌}
use native.Mathlib.Omega.{arith}
use borrow.Author.Tests.{ne_eqb}
use Rattle.rules.specs.Slots.{scrambler_step, scrambler_state, scrambling}
use Rattle.rules.specs.Block.{unscrambled}

step-lt : (s : ℕ) → scrambler_step s < 2 ^ 20
unfolding scrambler_step
step-lt s = omega arith

pub state-lt : (seed i : ℕ) → seed < 2 ^ 20 → scrambler_state seed i < 2 ^ 20
unfolding scrambler_state
state-lt seed zero h = h
state-lt seed (suc i) h = step-lt (scrambler_state seed i)

pub scrambling-lt : (seed mask i : ℕ) → scrambling seed mask i < 2
scrambling-lt seed mask i = omega arith

pub unscrambled-bit : (b s : ℕ) → b < 2 → unscrambled b s ≡ (b + s) % 2
unscrambled-bit b s h = rw (ne_eqb b 2 (omega arith))

-- descrambling gives the sent bit back
pub unscrambled-twice : (b s : ℕ) → b < 2 → unscrambled ((b + s) % 2) s ≡ b
unscrambled-twice b s h = unscrambled-bit ((b + s) % 2) s (omega arith) ∙ omega arith

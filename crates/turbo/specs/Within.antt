-- A row of which a loop has written a part, and what the steps of encoding make.
use Rattle.std.specs.Prelude.{◌≡◌, ℕ, zero, suc, ◌+◌, ◌-◌}
use Rattle.rules.specs.Turbo.{feedback, parity_of, shift}
use Rattle.rules.specs.Slots.{second}
use Rattle.laws.specs.Filled.{up_to}

-- g, but the first n elements of f from a on
unfoldable pub within : ℕ → ℕ → (ℕ → ℕ) → (ℕ → ℕ) → ℕ → ℕ
within a n f g = up_to a g (up_to (a + n) (λ k. f (k - a)) g)

-- g, counted from a
abbrev pub from : (ℕ → ℕ) → ℕ → ℕ → ℕ
from g a i = g (a + i)

-- register s, k zeros later
unfoldable pub after_zeros : ℕ → ℕ → ℕ
after_zeros s zero = s
after_zeros s (suc k) = shift 0 (after_zeros s k)

-- the bits that the two encoders read, at the beginning of X and of X'
abbrev pub with_data : (ℕ → ℕ) → ℕ → ℕ
with_data x = within 0 994 x (within 1994 994 (second x) (λ k. 0))

-- g with the ends of the two streams that begin at a, of an encoder whose register has come to s
abbrev pub with_ends : ℕ → ℕ → (ℕ → ℕ) → ℕ → ℕ
with_ends a s g = within (a + 994) 3 (λ k. feedback (after_zeros s k)) (within (a + 1991) 3 (λ k. parity_of 0 (after_zeros s k)) g)

-- one period: x is put out as o with the parity y0, and a enters register s, which is t then
pub record Puts (x a s o y0 t : ℕ) : Type 0 where
  pub x_is : o ≡ x
  pub y0_is : y0 ≡ parity_of a s
  pub register_is : t ≡ shift a s

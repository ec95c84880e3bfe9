-- Document 01, "Outer code": GF(256) by x^8 + x^4 + x^3 + x^2 + 1, α = 2. An element is a number below 256, its bit i the coefficient of x^i.
use Rattle.std.specs.Prelude.{ℕ, zero, suc, ◌*◌, ◌/◌, ◌%◌}
use Rattle.std.specs.Int.Bits.{bit_xor}

infixl 60 ◌⊕◌
infixl 70 ◌⊗◌
-- the sum: coefficients are added modulo 2
abbrev pub ◌⊕◌ : ℕ → ℕ → ℕ
◌⊕◌ a b = bit_xor a b

-- x^8 leaves x^4 + x^3 + x^2 + 1
abbrev pub polynomial : ℕ
polynomial = 0b11101

-- x times a: shifted by one, and where x^8 comes out, it is replaced by what it leaves
unfoldable pub double : ℕ → ℕ
double a = a * 2 % 256 ⊕ a / 128 % 2 * polynomial

-- the sum of a x^i over those of the n lowest bits i of b that are one
unfoldable pub times : ℕ → ℕ → ℕ → ℕ
times zero a b = 0
times (suc n) a b = b % 2 * a ⊕ times n (double a) (b / 2)

-- the product; what is not below 256 counts as its remainder, so that the laws need no condition
unfoldable pub ◌⊗◌ : ℕ → ℕ → ℕ
◌⊗◌ a b = times 8 (a % 256) (b % 256)

unfoldable pub power : ℕ → ℕ → ℕ
power a zero = 1
power a (suc k) = a ⊗ power a k

-- α^k
unfoldable pub alpha : ℕ → ℕ
alpha zero = 1
alpha (suc k) = double (alpha k)

-- a^254 is 1/a, since a^255 = 1; the inverse of zero is answered as zero
unfoldable pub inverse : ℕ → ℕ
inverse a = power a 254

-- How lost packets are worked out: the inverse of the system that the roots make, by Lagrange's polynomials.
-- proofs/Solve.antt shows that it is right.
use Rattle.std.specs.Prelude.{Bool, ◌&&◌, not, ℕ, zero, suc, ◌+◌, ◌-◌, ◌/◌, eqb}
use Rattle.rules.specs.Bits.{pick}
use Rattle.rules.specs.Field.{◌⊕◌, ◌⊗◌, power, alpha, inverse}
use Rattle.rules.specs.Outer.{value, root, marked}

-- f 0 ⊕ .. ⊕ f (n - 1)
unfoldable pub sum : ℕ → (ℕ → ℕ) → ℕ
sum zero f = 0
sum (suc n) f = sum n f ⊕ f n

-- f 0 + .. + f (n - 1), as numbers
unfoldable pub tally : (ℕ → ℕ) → ℕ → ℕ
tally f zero = 0
tally f (suc n) = tally f n + f n

-- The value of a column at root j is the sum over the packets of the byte, times the weight, times the node to the power j.
abbrev pub node : ℕ → ℕ
node p = alpha (15 - p)

abbrev pub weight : ℕ → ℕ → ℕ
weight r p = power (node p) (128 - r / 2)

abbrev pub lost_at : ℕ → ℕ → Bool
lost_at lost p = eqb (marked lost p) 1

-- packet k is lost, and is not p
abbrev pub other : ℕ → ℕ → ℕ → Bool
other lost p k = not (eqb k p) && lost_at lost k

-- the coefficient of x^j in x f, where f j is that in f
unfoldable pub raised : (ℕ → ℕ) → ℕ → ℕ
raised f j = pick (eqb j 0) 0 (f (j - 1))

-- the product of (x ⊕ node k) over those k below n that pass the test: its coefficient of x^j
unfoldable pub basis : (ℕ → Bool) → ℕ → ℕ → ℕ
basis t zero j = pick (eqb j 0) 1 0
basis t (suc n) j = pick (t n) (raised (basis t n) j ⊕ node n ⊗ basis t n j) (basis t n j)

-- and its value at x
unfoldable pub product : (ℕ → Bool) → ℕ → ℕ → ℕ
product t zero x = 1
product t (suc n) x = pick (t n) ((x ⊕ node n) ⊗ product t n x) (product t n x)

unfoldable pub denominator : ℕ → ℕ → ℕ → ℕ
denominator r lost p = product (other lost p) 16 (node p) ⊗ weight r p

-- what syndrome j counts for in the lost packet p
unfoldable pub entry : ℕ → ℕ → ℕ → ℕ → ℕ
entry r lost p j = basis (other lost p) 16 j ⊗ inverse (denominator r lost p)

abbrev pub syndrome : ℕ → (ℕ → ℕ) → ℕ → ℕ
syndrome r c j = value 16 c (root r j)

-- the bytes that are there, and zero for the lost ones
abbrev pub kept : ℕ → (ℕ → ℕ) → ℕ → ℕ
kept lost c p = pick (lost_at lost p) 0 (c p)

-- what is kept, and for each lost packet the only byte that can make a codeword of it
unfoldable pub solved : ℕ → ℕ → (ℕ → ℕ) → ℕ → ℕ
solved r lost c p = pick (lost_at lost p) (sum r (λ j. entry r lost p j ⊗ syndrome r (kept lost c) j)) (c p)

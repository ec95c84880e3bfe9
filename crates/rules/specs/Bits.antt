-- Bits, and a choice by a test. A bit is the number 0 or 1, and bits are added modulo 2.
-- A row of bits, bytes or field elements is a function of the index, from 0.
use Rattle.std.specs.Prelude.{Bool, true, false, ◌&&◌, List, [], ◌∷◌, ℕ, zero, suc, ◌+◌, ◌-◌, ◌*◌, ◌/◌, ◌%◌, ◌^◌, eqb, get_or}

abbrev pub pick : {A : Type 0} → Bool → A → A → A
pick true a b = a
pick false a b = b

-- a test passes at each number below n
abbrev pub every_below : ℕ → (ℕ → Bool) → Bool
every_below zero f = true
every_below (suc n) f = every_below n f && f n

-- which of the n numbers from k on pass a test, in rising order
abbrev pub passing : ℕ → ℕ → (ℕ → Bool) → List ℕ
passing zero k f = []
passing (suc n) k f = let rest = passing n (suc k) f in pick (f k) (k ∷ rest) rest

-- the first of the n numbers from k on that passes a test; k + n where none does
abbrev pub first_from : ℕ → ℕ → (ℕ → Bool) → ℕ
first_from zero k f = k
first_from (suc n) k f = pick (f k) k (first_from n (suc k) f)

-- a list as a row, with zeros after its end
abbrev pub row : List ℕ → ℕ → ℕ
row l i = get_or l i 0

-- f 0, .., f (n - 1)
abbrev pub first_of : ℕ → (ℕ → ℕ) → List ℕ
first_of zero f = []
first_of (suc n) f = f 0 ∷ first_of n (λ k. f (suc k))

-- bit i of a number of w bits, highest bit first
abbrev pub bit_of : ℕ → ℕ → ℕ → ℕ
bit_of w x i = x / 2 ^ (w - 1 - i) % 2

-- the number whose bits, highest first, are the first n of a row
abbrev pub as_number : ℕ → (ℕ → ℕ) → ℕ
as_number zero f = 0
as_number (suc n) f = as_number n f * 2 + f n

-- Bytes go highest bit first: bit i of a row of bytes
abbrev pub byte_bit : (ℕ → ℕ) → ℕ → ℕ
byte_bit bytes i = bit_of 8 (bytes (i / 8)) (i % 8)

-- in how many of the first n places two rows differ
unfoldable pub differ : ℕ → (ℕ → ℕ) → (ℕ → ℕ) → ℕ
differ zero x y = 0
differ (suc n) x y = differ n x y + pick (eqb (x n) (y n)) 0 1

-- Document 01, "Turbo code": the turbo interleaver of 002, over the width n, the table D and the length; and the bit interleaver.
use Rattle.std.specs.Prelude.{List, [], ◌∷◌, ℕ, ◌+◌, ◌*◌, ◌/◌, ◌%◌, ◌^◌}
use Rattle.rules.specs.Kept.{reversed, kept}

-- D, from 0
abbrev pub table_d : List ℕ
table_d =
    27 ∷ 3 ∷ 1 ∷ 15 ∷ 13 ∷ 17 ∷ 23 ∷ 13 ∷ 9 ∷ 3 ∷ 15 ∷ 3 ∷ 13 ∷ 1 ∷ 13 ∷ 29
    ∷ 21 ∷ 19 ∷ 1 ∷ 3 ∷ 29 ∷ 17 ∷ 25 ∷ 29 ∷ 9 ∷ 13 ∷ 23 ∷ 13 ∷ 13 ∷ 1 ∷ 13 ∷ 13 ∷ []

-- counter m: I0 = m mod 32, I1 = m div 32
unfoldable pub address : ℕ → (ℕ → ℕ) → ℕ → ℕ
address n D m = 2 ^ n * reversed 5 (m % 32) + D (m % 32) * (m / 32 + 1) % 2 ^ n

-- the second encoder's i-th bit is this one of the first's; counters stay below 32 × 2^n, and addresses of the length and above are dropped
unfoldable pub interleaved : ℕ → (ℕ → ℕ) → ℕ → ℕ → ℕ
interleaved n D len i = kept (address n D) (32 * 2 ^ n) len i

-- Written down four columns of L/4 rows and read row by row: output 4q + c is input (L/4)c + q
abbrev pub bit_interleaved : ℕ → ℕ → ℕ
bit_interleaved L i = L / 4 * (i % 4) + i / 4

-- and the output that input n goes to
abbrev pub bit_deinterleaved : ℕ → ℕ → ℕ
bit_deinterleaved L n = 4 * (n % (L / 4)) + n / (L / 4)

-- Document 01, "Outer code": the generators of 002, parity, codewords. A column is byte j of all 16 packets, packet 0 the coefficient of x^15.
use Rattle.std.specs.Prelude.{◌≡◌, Bool, not, ◌||◌, List, [], ◌∷◌, ℕ, zero, suc, ◌+◌, ◌-◌, ◌*◌, ◌/◌, ◌%◌, ◌^◌, ◌<◌, ◌≤◌, T, eqb, ltb, length}
use Rattle.std.specs.Int.Count.{ones}
use Rattle.rules.specs.Bits.{pick, row}
use Rattle.rules.specs.Field.{◌⊕◌, ◌⊗◌, alpha}

-- K is 8, 12 or 14 and r = 16 - K
abbrev pub is_k : ℕ → Bool
is_k k = eqb k 8 || eqb k 12 || eqb k 14

-- the generator's coefficients below x^r, from x^(r-1) down to 1, as powers of α; that of x^r is 1
abbrev pub exponents : ℕ → List ℕ
exponents r =
    pick (eqb r 8) (44 ∷ 231 ∷ 70 ∷ 235 ∷ 70 ∷ 231 ∷ 44 ∷ 0 ∷ [])
    (pick (eqb r 4) (201 ∷ 246 ∷ 201 ∷ 0 ∷ []) (152 ∷ 0 ∷ []))

-- the coefficient of x^(r-1-i)
unfoldable pub generator : ℕ → ℕ → ℕ
generator r i = alpha (row (exponents r) i)

-- The remainder of (d 0 x^(n-1) + .. + d (n-1)) x^r by the generator, coefficient of x^(r-1-i), by long division: what stands at x^r once the next
-- coefficient has come is taken off as that many times the generator.
unfoldable pub remainder : ℕ → (ℕ → ℕ) → ℕ → ℕ → ℕ
remainder r d zero i = 0
remainder r d (suc n) i =
    pick (ltb (suc i) r) (remainder r d n (suc i)) 0 ⊕ (d n ⊕ remainder r d n 0) ⊗ generator r i

-- systematic, data first: 16 bytes are a codeword where the last r are the remainder of the 16 - r before them, times x^r
pub record Codeword (r : ℕ) (c : ℕ → ℕ) : Type 0 where
  pub bytes : (p : ℕ) → p < 16 → c p < 256
  pub parity : (i : ℕ) → i < r → c (16 - r + i) ≡ remainder r c (16 - r) i

-- the codeword that starts with the given 16 - r bytes
unfoldable pub encoded : ℕ → (ℕ → ℕ) → ℕ → ℕ
encoded r d i = pick (ltb i (16 - r)) (d i) (remainder r d (16 - r) (i - (16 - r)))

-- the value at x of f 0 x^(n-1) + .. + f (n-1)
unfoldable pub value : ℕ → (ℕ → ℕ) → ℕ → ℕ
value zero f x = 0
value (suc n) f x = x ⊗ value n f x ⊕ f n

-- the roots are α^(128-r/2) to α^(127+r/2): proofs/Roots.antt
abbrev pub root : ℕ → ℕ → ℕ
root r j = alpha (128 - r / 2 + j)

-- ---- a block of 16 packets of 122 bytes, packet after packet

-- byte j of packet p
abbrev pub column : List ℕ → ℕ → ℕ → ℕ
column block j p = row block (122 * p + j)

-- bit p of a mask is packet p's
abbrev pub marked : ℕ → ℕ → ℕ
marked mask p = mask / 2 ^ p % 2

-- c has what d has in every packet that isn't lost
abbrev pub Agree : ℕ → (ℕ → ℕ) → (ℕ → ℕ) → Type 0
Agree lost c d = (p : ℕ) → p < 16 → marked lost p ≡ 0 → c p ≡ d p

-- What making the parity of a block answers, by its paper number: 43 K isn't 8, 12 or 14, 6 the block isn't 1952 bytes, else 0; and what the block then
-- holds: at 0 every column is the codeword of its first K bytes, and a refusal leaves the block as it was.
pub record ParityMade (k : ℕ) (before after : List ℕ) (number : ℕ) : Type 0 where
  pub answer : number ≡ pick (not (is_k k)) 43 (pick (not (eqb (length before) 1952)) 6 0)
  pub long : number ≡ 0 → length after ≡ 1952
  pub columns : number ≡ 0 → (j : ℕ) → j < 122 → (p : ℕ) → p < 16 → column after j p ≡ encoded (16 - k) (column before j) p
  pub kept : ¬ (number ≡ 0) → after ≡ before

-- What restoring a block answers, by its paper number, and what the block then holds: at 0 every column is a codeword that agrees with all packets
-- that aren't lost (proofs say that there is only one), and a refusal leaves the block as it was.
pub data Restored (k lost : ℕ) (before after : List ℕ) : ℕ → Type 0 where
  restored : T (is_k k)
      → length before ≡ 1952
      → ones lost ≤ 16 - k
      → length after ≡ 1952
      → ((j : ℕ) → j < 122 → Codeword (16 - k) (column after j) × Agree lost (column after j) (column before j))
      → Restored k lost before after 0
  bad_k : ¬ T (is_k k) → after ≡ before → Restored k lost before after 43
  bad_length : T (is_k k) → ¬ (length before ≡ 1952) → after ≡ before → Restored k lost before after 6
  too_many_lost : T (is_k k) → length before ≡ 1952 → 16 - k < ones lost → after ≡ before → Restored k lost before after 9
  no_codeword : T (is_k k)
      → length before ≡ 1952
      → ones lost ≤ 16 - k
      → (j : ℕ)
      → j < 122
      → ((c : ℕ → ℕ) → Codeword (16 - k) c → Agree lost c (column before j) → ⊥)
      → after ≡ before
      → Restored k lost before after 10

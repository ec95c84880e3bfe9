-- The scrambler's outputs follow the recurrence of h = D^20 + D^17 + 1: from output 20 on, each is the sum of those 20 and 17 before it.
use mathlib.Core.Path.{◌≡◌, refl, sym, ◌∙◌, ap, ap₂}
use mathlib.Core.List.{List}
use Prim.Native.Nat.{ℕ, zero, suc, ◌+◌, ◌-◌, ◌*◌, ◌/◌, ◌%◌, ◌^◌, ◌<◌, ◌≤◌, min}
use native.Mathlib.Nat.{pow-succ', div-div-eq-div-mul, div-add-mod', div-one, add-zero, add-suc, add-mod}
use native.Mathlib.Decide.{dec_lt}
use native.Mathlib.Omega.{arith}
use lib.Bits.{bit_xor, block_half, block_odd, xor_add_and, xor_lt}
use lib.ListN.{length, set, replicate, length-replicate, get_or-replicate}
use Rattle.rules.specs.Bits.{row}
use Rattle.rules.specs.Slots.{scrambler_step, scrambler_state, both, scrambling}
use Rattle.laws.specs.Holds.{Holds}
use Rattle.laws.specs.Filled.{up_to, up_to-below, up_to-from, holds-next}
use Rattle.laws.specs.Parts.{put_part, put-long, put_in, put-after}

-- bit j of a number, lowest bit first
unfoldable bit : ℕ → ℕ → ℕ
bit zero s = s % 2
bit (suc j) s = bit j (s / 2)

bit-div : (j s : ℕ) → bit j s ≡ s / 2 ^ j % 2
unfolding bit
bit-div zero s = ap (λ (x : ℕ). x % 2) (sym (div-one s))
bit-div (suc j) s = bit-div j (s / 2) ∙ ap (λ (x : ℕ). x % 2) (div-div-eq-div-mul s 2 (2 ^ j) ∙ ap (λ (x : ℕ). s / x) (sym (pow-succ' 2 j)))

-- the bits below bit k are those of what is left by 2 ^ k
bit-block : (j k a r : ℕ) → j < k → bit j (a * 2 ^ k + r) ≡ bit j r
unfolding bit
bit-block j zero a r h = absurd (omega arith)
bit-block zero (suc k) a r h = block_odd a k r
bit-block (suc j) (suc k) a r h = ap (bit j) (block_half a k r) ∙ bit-block j k a (r / 2) (omega arith)

bit-mod : (j k s : ℕ) → j < k → bit j (s % 2 ^ k) ≡ bit j s
bit-mod j k s h = sym (bit-block j k (s / 2 ^ k) (s % 2 ^ k) h) ∙ ap (bit j) (div-add-mod' s (2 ^ k))

-- ---- a number whose bits are the sums of two others' bits

-- also with a mask's bit p
masked : (b c p : ℕ) → b < 2 → c < 2 → p < 2 → min ((b + c) % 2) p ≡ (min b p + min c p) % 2
masked b c p hb hc hp = omega arith

sums : (a b c A B C : ℕ) → a ≡ (b + c) % 2 → A % 2 ≡ (B + C) % 2 → (a + A) % 2 ≡ (b + B + (c + C)) % 2
sums a b c A B C e E = omega arith

both-sum : (w a b c mask : ℕ) → ((j : ℕ) → j < w → bit j a ≡ (bit j b + bit j c) % 2)
    → both w a mask % 2 ≡ (both w b mask + both w c mask) % 2
unfolding both bit
both-sum zero a b c mask h = refl
both-sum (suc w) a b c mask h =
    sums _ _ _ _ _ _
    (ap (λ (x : ℕ). min x (mask % 2)) (h 0 (omega arith)) ∙ masked (b % 2) (c % 2) (mask % 2) (omega arith) (omega arith) (omega arith))
    (both-sum w (a / 2) (b / 2) (c / 2) (mask / 2) (λ j lt. h (suc j) (omega arith)))

-- ---- one step of the register

-- what is doubled adds nothing to the lowest bit
lowest : (s z : ℕ) → (s * 2 % 2 ^ 20 + z % 2) % 2 ≡ z % 2
lowest s z = omega arith

step-low : (s : ℕ) → bit 0 (scrambler_step s) ≡ (bit 19 s + bit 16 s) % 2
unfolding bit scrambler_step
step-low s =
    lowest s (s / 2 ^ 19 + s / 2 ^ 16) ∙ add-mod (s / 2 ^ 19) (s / 2 ^ 16) 2
    ∙ sym (ap₂ (λ (x y : ℕ). (x + y) % 2) (bit-div 19 s) (bit-div 16 s))

step-high : (j s : ℕ) → j < 19 → bit (suc j) (scrambler_step s) ≡ bit j s
unfolding bit scrambler_step
step-high j s h = let half : scrambler_step s / 2 ≡ s % 2 ^ 19 = omega arith in ap (bit j) half ∙ bit-mod j 19 s h

module _ (seed : ℕ) where
  -- bit j of the state after i steps
  abbrev at : ℕ → ℕ → ℕ
  at i j = bit j (scrambler_state seed i)

  next_low : (i : ℕ) → at (suc i) 0 ≡ (at i 19 + at i 16) % 2
  unfolding scrambler_state
  next_low i = step-low (scrambler_state seed i)

  next-high : (i j : ℕ) → j < 19 → at (suc i) (suc j) ≡ at i j
  unfolding scrambler_state
  next-high i j h = step-high j (scrambler_state seed i) h

  -- a bit stands m places higher m steps later
  later : (m i j : ℕ) → j + m < 20 → at (i + m) (j + m) ≡ at i j
  later zero i j h = ap₂ at (add-zero i) (add-zero j)
  later (suc m) i j h = ap₂ at (add-suc i m) (add-suc j m) ∙ next-high (i + m) (j + m) (omega arith) ∙ later m i j (omega arith)

  -- the bit at place j came in j steps before, as the sum of two bits that stand at place j in two earlier states
  each-bit : (i j : ℕ) → j < 20 → at (i + 20) j ≡ (at i j + at (i + 3) j) % 2
  each-bit i j h = came ∙ next_low t ∙ ap₂ (λ (x y : ℕ). (x + y) % 2) old (new (dec_lt j 17))
    where
      t : ℕ
      t = i + 19 - j

      from : (m a b c d : ℕ) → c ≡ a + m → d ≡ b + m → d < 20 → at c d ≡ at a b
      from m a b c d e f lt = ap₂ at e f ∙ later m a b (omega arith)

      came : at (i + 20) j ≡ at (suc t) 0
      came = from j (suc t) 0 (i + 20) j (omega arith) (omega arith) h

      old : at t 19 ≡ at i j
      old = from (19 - j) i j t 19 (omega arith) (omega arith) (omega arith)

      new : Dec (j < 17) → at t 16 ≡ at (i + 3) j
      new (yes lt) = from (16 - j) (i + 3) j t 16 (omega arith) (omega arith) (omega arith)
      new (no ge) = sym (from (j - 16) t 16 (i + 3) j (omega arith) (omega arith) h)

  pub recurrence : (mask i : ℕ) → scrambling seed mask (i + 20) ≡ (scrambling seed mask i + scrambling seed mask (i + 3)) % 2
  recurrence mask i =
      both-sum 20 (scrambler_state seed (i + 20)) (scrambler_state seed i) (scrambler_state seed (i + 3)) mask (each-bit i)
      ∙ add-mod (both 20 (scrambler_state seed i) mask) (both 20 (scrambler_state seed (i + 3)) mask) 2

-- ---- rows of bits that follow such a recurrence

-- from n on, each is the sum of those n and n - k before it
abbrev pub Follows : (ℕ → ℕ) → ℕ → ℕ → Type 0
Follows o n k = (i : ℕ) → o (i + n) ≡ (o i + o (i + k)) % 2

-- a recurrence also holds at twice its distances
doubled : (o : ℕ → ℕ) (n k : ℕ) → Follows o n k → Follows o (n + n) (k + k)
doubled o n k law i =
    ap o (omega arith) ∙ law (i + n) ∙ ap₂ (λ (x y : ℕ). (x + y) % 2) (law i) other ∙ cancelled (o i) (o (i + k)) (o (i + (k + k)))
  where
    other : o (i + n + k) ≡ (o (i + k) + o (i + (k + k))) % 2
    other = ap o (omega arith) ∙ law (i + k) ∙ ap (λ (j : ℕ). (o (i + k) + o j) % 2) (omega arith)

    cancelled : (x y z : ℕ) → ((x + y) % 2 + (y + z) % 2) % 2 ≡ (x + z) % 2
    cancelled x y z = omega arith

-- that of h^4 = D^80 + D^68 + 1
pub recurrence-4 : (seed mask : ℕ) → Follows (scrambling seed mask) 80 12
recurrence-4 seed mask = doubled (scrambling seed mask) 40 6 (doubled (scrambling seed mask) 20 3 (recurrence seed mask))

xor-bits : (a b : ℕ) → a < 2 → b < 2 → bit_xor a b ≡ (a + b) % 2
xor-bits a b ha hb = omega (arith, xor_add_and a b, xor_lt 1 a b ha hb)

-- the first n of a list of zeros are written
pub holds-front : (o : ℕ → ℕ) (n size : ℕ) (y : List ℕ) → n ≤ size → Holds 0 n o y → Holds 0 size (up_to n o (λ k. 0)) (put_part 0 n (replicate size 0) y)
holds-front o n size y le h = record { long = put-long 0 n zeros (omega arith) to y long-y ∙ long; each = each }
  where
    zeros : List ℕ
    zeros = replicate size 0

    long : length zeros ≡ size
    long = length-replicate {A = ℕ} size 0

    long-y : length y ≡ n - 0
    long-y = omega (arith, h.long)

    to : n ≤ length zeros
    to = omega (arith, long)

    each : (k : ℕ) → k < size → row (put_part 0 n zeros y) k ≡ up_to n o (λ k. 0) k
    each k lt = go (dec_lt k n)
      where
        go : Dec (k < n) → row (put_part 0 n zeros y) k ≡ up_to n o (λ k. 0) k
        go (yes before) =
            ap (row (put_part 0 n zeros y)) (omega arith) ∙ put_in 0 n zeros (omega arith) to y long-y k 0 (omega arith)
            ∙ h.each k before ∙ sym (up_to-below o (λ k. 0) n k before)
        go (no after) =
            let place : n + (k - n) ≡ k = omega arith in
            ap (row (put_part 0 n zeros y)) (sym place) ∙ put-after 0 n zeros (omega arith) to y long-y (k - n) 0
            ∙ get_or-replicate size (n + (k - n)) 0 0 (omega arith) ∙ sym (up_to-from o (λ k. 0) n k (omega arith))

-- a turn that stores element i, the sum of two before it
pub holds-sum : (o g : ℕ → ℕ) (n k : ℕ) → ((i : ℕ) → o i < 2) → Follows o n k → k < n → {size : ℕ} {l : List ℕ} (i : ℕ) → n ≤ i → i < size
    → Holds 0 size (up_to i o g) l → Holds 0 size (up_to (i + 1) o g) (set l i (bit_xor (row l (i - n)) (row l (i - (n - k)))))
holds-sum o g n k bits law lt {size} {l} i from room h = holds-next o g 0 i _ room sum h
  where
    before : (j : ℕ) → j < i → row l j ≡ o j
    before j less = h.each j (omega arith) ∙ up_to-below o g i j less

    sum : bit_xor (row l (i - n)) (row l (i - (n - k))) ≡ o i
    sum =
        ap₂ bit_xor (before (i - n) (omega arith)) (before (i - (n - k)) (omega arith) ∙ ap o (omega arith))
        ∙ xor-bits (o (i - n)) (o (i - n + k)) (bits (i - n)) (bits (i - n + k)) ∙ sym (law (i - n)) ∙ ap o (omega arith)

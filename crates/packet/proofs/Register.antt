-- One step of the check register is linear over the bits, and keeps their parity.
use mathlib.Core.Path.{◌≡◌, refl, sym, ap, ap₂, ◌∙◌}
use Prim.Native.Nat.{ℕ, zero, suc, ◌+◌, ◌-◌, ◌*◌, ◌/◌, ◌%◌, ◌^◌, ◌<◌}
use native.Mathlib.Nat.{mul_assoc, mul-div-mul_right, pow-suc, zero-mul, one-mul, add-zero, mul-one, add-mod, add-mod-mod, mod-eq_of_lt}
use native.Mathlib.Omega.{arith}
use lib.Arith.{bin_ind}
use lib.Bits.{bit_xor, bit_and, xor_comm, xor_self, xor_zero_r, xor_shr, xor_mod, xor_block, xor_lt, xor_add_and, and_comm, and_mask, and_mod, and_shr}
use lib.Count.{ones, ones_step, ones_cat, ones-le}
use lib.Dec.{lit<}
use lib.Pow.{split, field, pow-add, pow_pos}
use Rattle.rules.specs.Bits.{bit_of}
use Rattle.rules.specs.Packet.{check_polynomial, check_step, check_register}

-- ---- sums of bits

-- halves and remainders agree
xor_assoc : (a b c : ℕ) → bit_xor (bit_xor a b) c ≡ bit_xor a (bit_xor b c)
xor_assoc =
    bin_ind (λ (a : ℕ). (b c : ℕ) → bit_xor (bit_xor a b) c ≡ bit_xor a (bit_xor b c)) (λ b c. refl) λ a ih b c.
    let halves : bit_xor (bit_xor a b) c / 2 ≡ bit_xor a (bit_xor b c) / 2 =
    xor_shr (bit_xor a b) c 1 ∙ ap (λ (x : ℕ). bit_xor x (c / 2)) (xor_shr a b 1) ∙ ih (b / 2) (c / 2)
    ∙ ap (bit_xor (a / 2)) (sym (xor_shr b c 1)) ∙ sym (xor_shr a (bit_xor b c) 1) in
    omega (arith, halves, xor_add_and (bit_xor a b) c, xor_add_and a b, xor_add_and a (bit_xor b c), xor_add_and b c)

-- two sums, added
pub xor-swap : (a b c d : ℕ) → bit_xor (bit_xor a b) (bit_xor c d) ≡ bit_xor (bit_xor a c) (bit_xor b d)
xor-swap a b c d =
    xor_assoc a b (bit_xor c d)
    ∙ ap (bit_xor a) (sym (xor_assoc b c d) ∙ ap (λ (x : ℕ). bit_xor x d) (xor_comm b c) ∙ xor_assoc c b d)
    ∙ sym (xor_assoc a c (bit_xor b d))

pub xor-zero-eq : (a b : ℕ) → bit_xor a b ≡ 0 → a ≡ b
xor-zero-eq a b e =
    sym (xor_zero_r a) ∙ ap (bit_xor a) (sym (xor_self b)) ∙ sym (xor_assoc a b b) ∙ ap (λ (x : ℕ). bit_xor x b) e

-- a bit of a sum
pub xor-bit : (a b i : ℕ) → bit_of 16 (bit_xor a b) i ≡ (bit_of 16 a i + bit_of 16 b i) % 2
xor-bit a b i =
    omega (arith, xor_shr a b (15 - i), xor_add_and (a / 2 ^ (15 - i)) (b / 2 ^ (15 - i)))

-- a complement is a sum with all ones
pub complement : (k a : ℕ) → a < 2 ^ k → 2 ^ k - 1 - a ≡ bit_xor (2 ^ k - 1) a
complement k a h = omega (arith, xor_add_and (2 ^ k - 1) a, and_comm (2 ^ k - 1) a, and_mask a k, mod-eq_of_lt h)

-- ---- the step

times-bits : (p q m : ℕ) → p < 2 → q < 2 → bit_xor (p * m) (q * m) ≡ (p + q) % 2 * m
times-bits zero zero m hp hq = rw zero-mul refl
times-bits zero (suc zero) m hp hq = rw (zero-mul, one-mul) refl
times-bits (suc zero) zero m hp hq = rw (zero-mul, one-mul) (xor_zero_r m)
times-bits (suc zero) (suc zero) m hp hq = rw (one-mul, zero-mul) (xor_self m)
times-bits zero (suc (suc q)) m hp hq = absurd (omega arith)
times-bits (suc zero) (suc (suc q)) m hp hq = absurd (omega arith)
times-bits (suc (suc p)) q m hp hq = absurd (omega arith)

double-xor : (s t : ℕ) → bit_xor s t * 2 ≡ bit_xor (s * 2) (t * 2)
double-xor s t = sym (simp add-zero at (xor_block 1 s t 0 0 (lit< tt) (lit< tt)))

tops : (u v b c : ℕ) → (bit_xor u v + (b + c) % 2) % 2 ≡ ((u + b) % 2 + (v + c) % 2) % 2
tops u v b c =
    let plain : (bit_xor u v + (b + c)) % 2 ≡ (u + b + (v + c)) % 2 = omega (arith, xor_add_and u v) in
    add-mod-mod (bit_xor u v) (b + c) 2 ∙ plain ∙ add-mod (u + b) (v + c) 2

pub step-linear : (s t b c : ℕ) → check_step (bit_xor s t) ((b + c) % 2) ≡ bit_xor (check_step s b) (check_step t c)
unfolding check_step
step-linear s t b c =
    ap₂ (λ (l r : ℕ). bit_xor (l % 2 ^ 16) ((r + (b + c) % 2) % 2 * check_polynomial)) (double-xor s t) (xor_shr s t 15)
    ∙ ap (λ (r : ℕ). bit_xor (bit_xor (s * 2) (t * 2) % 2 ^ 16) (r * check_polynomial)) (tops (s / 2 ^ 15) (t / 2 ^ 15) b c)
    ∙ ap₂ bit_xor (xor_mod (s * 2) (t * 2) 16)
    (sym (times-bits ((s / 2 ^ 15 + b) % 2) ((t / 2 ^ 15 + c) % 2) check_polynomial (omega arith) (omega arith)))
    ∙ xor-swap (s * 2 % 2 ^ 16) (t * 2 % 2 ^ 16) ((s / 2 ^ 15 + b) % 2 * check_polynomial) ((t / 2 ^ 15 + c) % 2 * check_polynomial)

pub step-lt : (s b : ℕ) → check_step s b < 2 ^ 16
unfolding check_step
step-lt s b = xor_lt 16 (s * 2 % 2 ^ 16) ((s / 2 ^ 15 + b) % 2 * check_polynomial) (omega arith) (omega arith)

pub register_lt : (x : ℕ → ℕ) (n : ℕ) → check_register x n < 2 ^ 16
unfolding check_register
register_lt x zero = lit< tt
register_lt x (suc n) = step-lt (check_register x n) (x n)

-- ---- parity

xor-digit : (a b : ℕ) → bit_xor a b % 2 + 2 * (bit_and a b % 2) ≡ a % 2 + b % 2
xor-digit a b = omega (arith, xor_mod a b 1, and_mod a b 1, xor_add_and (a % 2) (b % 2))

xor_ones : (a b : ℕ) → ones (bit_xor a b) + 2 * ones (bit_and a b) ≡ ones a + ones b
xor_ones =
    bin_ind (λ (a : ℕ). (b : ℕ) → ones (bit_xor a b) + 2 * ones (bit_and a b) ≡ ones a + ones b) (λ b. omega (arith, ones-le 0 0 (lit< tt)))
    (λ a ih b.
    omega (
      arith,
      xor-digit a b,
      ones_step (bit_xor a b),
      ones_step (bit_and a b),
      ones_step a,
      ones_step b,
      ap ones (xor_shr a b 1),
      ap ones (and_shr a b 1),
      ih (b / 2),
    ))

-- the ones of a bit times m
ones-times : (p m : ℕ) → p < 2 → ones (p * m) ≡ p * ones m
unfolding ones
ones-times zero m h = rw (zero-mul, zero-mul) refl
ones-times (suc zero) m h = rw (one-mul, one-mul) refl
ones-times (suc (suc p)) m h = absurd (omega arith)

-- the top digit goes, and the polynomial has three ones
odd-sum : (o k l p t b : ℕ) → o + 2 * k ≡ l + t * 3 → t ≡ (p + b) % 2 → o % 2 ≡ (p + l + b) % 2
odd-sum o k l p t b e f = omega arith

ones-double : (a : ℕ) → ones (a * 2) ≡ ones a
ones-double a =
    let half : a * 2 / 2 ≡ a = omega arith in
    omega (arith, ones_step (a * 2), ap ones half)

pub step-parity : (s b : ℕ) → s < 2 ^ 16 → ones (check_step s b) % 2 ≡ (ones s + b) % 2
unfolding check_step ones
step-parity s b h =
    let p : ℕ = s / 2 ^ 15 in
    let l : ℕ = s % 2 ^ 15 in
    let t : ℕ = (p + b) % 2 in
    let v : ℕ = t * check_polynomial in
    let low : s * 2 % 2 ^ 16 ≡ l * 2 = omega arith in
    let top : ones p ≡ p = ap ones (sym (mul-one p)) ∙ ones-times p 1 (omega arith) ∙ mul-one p in
    let whole : ones s ≡ p + ones l = sym (ap ones (split s 15)) ∙ ones_cat 15 p l (omega arith) ∙ ap (λ (q : ℕ). q + ones l) top in
    ap (λ (u : ℕ). ones (bit_xor u v) % 2) low
    ∙ odd-sum (ones (bit_xor (l * 2) v)) (ones (bit_and (l * 2) v)) (ones l) p t b
    (xor_ones (l * 2) v ∙ ap₂ (λ (x y : ℕ). x + y) (ones-double l) (ones-times t check_polynomial (omega arith))) refl
    ∙ ap (λ (o : ℕ). (o + b) % 2) (sym whole)

-- ---- steps with a zero, a one, and the register's own top digit

-- nothing but zero becomes zero: the polynomial is odd, and what is shifted is even
pub step-nonzero : (z : ℕ) → z < 2 ^ 16 → check_step z 0 ≡ 0 → z ≡ 0
unfolding check_step
step-nonzero z h e = go ((z / 2 ^ 15 + 0) % 2) refl (xor-zero-eq (z * 2 % 2 ^ 16) ((z / 2 ^ 15 + 0) % 2 * check_polynomial) e)
  where
    go : (t : ℕ) → t ≡ (z / 2 ^ 15 + 0) % 2 → z * 2 % 2 ^ 16 ≡ t * check_polynomial → z ≡ 0
    go zero q f =
        let bit : z / 2 ^ 15 + 0 < 2 = omega arith in
        let small : z * 2 < 2 ^ 16 = omega (arith, mod-eq_of_lt bit) in
        omega (arith, mod-eq_of_lt small)
    go (suc zero) q f = absurd (omega arith)
    go (suc (suc t)) q f = absurd (omega arith)

-- a one adds the polynomial
pub step-one : (z : ℕ) → check_step z 1 ≡ bit_xor (check_step z 0) check_polynomial
unfolding check_step
step-one z = ap (λ (s : ℕ). check_step s 1) (sym (xor_zero_r z)) ∙ step-linear z 0 0 1

-- the top digit of z shifted i times is z's digit i
top_digit : (z i : ℕ) → i < 16 → z * 2 ^ i % 2 ^ 16 / 2 ^ 15 ≡ bit_of 16 z i
top_digit z i h =
    let places : 15 - i + i ≡ 15 = omega arith in
    field (z * 2 ^ i) 1 15
    ∙ ap (λ (q : ℕ). z * 2 ^ i / q % 2) (sym (ap (λ (k : ℕ). 2 ^ k) places) ∙ pow-add 2 (15 - i) i)
    ∙ ap (λ (q : ℕ). q % 2) (mul-div-mul_right z (2 ^ (15 - i)) (pow_pos i))

-- so fed with that digit the register only shifts
pub shift-step : (z i : ℕ) → i < 16 → check_step (z * 2 ^ i % 2 ^ 16) (bit_of 16 z i) ≡ z * 2 ^ suc i % 2 ^ 16
unfolding check_step
shift-step z i h =
    let v : ℕ = z * 2 ^ i in
    let even : (v % 2 ^ 16 / 2 ^ 15 + bit_of 16 z i) % 2 ≡ 0 = omega (arith, top_digit z i h) in
    let twice : v % 2 ^ 16 * 2 % 2 ^ 16 ≡ v * 2 % 2 ^ 16 = omega arith in
    ap (λ (t : ℕ). bit_xor (v % 2 ^ 16 * 2 % 2 ^ 16) (t * check_polynomial)) even
    ∙ xor_zero_r (v % 2 ^ 16 * 2 % 2 ^ 16) ∙ twice
    ∙ ap (λ (w : ℕ). w % 2 ^ 16) (mul_assoc z (2 ^ i) 2 ∙ ap (λ (w : ℕ). z * w) (sym (pow-suc 2 i)))

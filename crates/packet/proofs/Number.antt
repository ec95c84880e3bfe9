-- The number that bits spell, highest first, and the bits of a number.
use mathlib.Core.Path.{◌≡◌, refl, sym, ap, ap₂, ◌∙◌}
use Prim.Native.Nat.{ℕ, zero, suc, ◌+◌, ◌-◌, ◌*◌, ◌/◌, ◌^◌, ◌<◌, ◌≤◌}
use native.Mathlib.Nat.{le_refl, add-zero, div-eq_of_lt, sub-zero}
use native.Mathlib.Numerals.{add-one, one-add}
use native.Mathlib.Decide.{ℕ_discrete}
use native.Mathlib.Omega.{arith}
use lib.Pow.{shr-shr}
use Rattle.rules.specs.Bits.{bit_of}
use Rattle.rules.specs.Block.{byte_of}

unfoldable pub number : (ℕ → ℕ) → ℕ → ℕ
number x zero = 0
number x (suc n) = number x n * 2 + x n

pub number_same : (x y : ℕ → ℕ) (n : ℕ) → ((k : ℕ) → k < n → x k ≡ y k) → number x n ≡ number y n
unfolding number
number_same x y zero h = refl
number_same x y (suc n) h = ap₂ (λ (a b : ℕ). a * 2 + b) (number_same x y n (λ k lt. h k (omega arith))) (h n (le_refl (suc n)))

pub number-lt : (x : ℕ → ℕ) (n : ℕ) → ((k : ℕ) → x k < 2) → number x n < 2 ^ n
unfolding number
number-lt x zero b = omega arith
number-lt x (suc n) b = omega (arith, number-lt x n b, b n)

-- one digit further down
half-more : (a p : ℕ) → a / 2 ^ suc p ≡ a / 2 / 2 ^ p
half-more a p = ap (λ (k : ℕ). a / 2 ^ k) (sym (one-add p)) ∙ sym (shr-shr a 1 p)

more-half : (a p : ℕ) → a / 2 ^ suc p ≡ a / 2 ^ p / 2
more-half a p = ap (λ (k : ℕ). a / 2 ^ k) (sym (add-one p)) ∙ sym (shr-shr a p 1)

pub bit-of-number : (x : ℕ → ℕ) (n : ℕ) → ((k : ℕ) → k < n → x k < 2) → (k : ℕ) → k < n → bit_of n (number x n) k ≡ x k
unfolding number
bit-of-number x zero b k h = absurd (omega arith)
bit-of-number x (suc n) b k h = go (ℕ_discrete k n) (λ lt. bit-of-number x n (λ i l. b i (omega arith)) k lt)
  where
    last : x n < 2
    last = b n (le_refl (suc n))

    go : Dec (k ≡ n) → (k < n → bit_of n (number x n) k ≡ x k) → bit_of (suc n) (number x (suc n)) k ≡ x k
    go (yes e) earlier =
        let z : suc n - 1 - k ≡ 0 = omega arith in
        rw z (omega (arith, last, ap x e))
    go (no e) earlier =
        let s : suc n - 1 - k ≡ suc (n - 1 - k) = omega arith in
        let half : (number x n * 2 + x n) / 2 ≡ number x n = omega (arith, last) in
        rw (s, half-more (number x n * 2 + x n) (n - 1 - k), half) (earlier (omega arith))

pub number-of-bits : (w a n : ℕ) → a < 2 ^ w → n ≤ w → number (bit_of w a) n ≡ a / 2 ^ (w - n)
unfolding number
number-of-bits w a zero ha h = rw sub-zero (sym (div-eq_of_lt ha))
number-of-bits w a (suc n) ha h =
    let s : w - n ≡ suc (w - suc n) = omega arith in
    let e : w - 1 - n ≡ w - suc n = omega arith in
    let ih : number (bit_of w a) n ≡ a / 2 ^ (w - suc n) / 2 =
    number-of-bits w a n ha (omega arith) ∙ ap (λ (k : ℕ). a / 2 ^ k) s ∙ more-half a (w - suc n) in
    rw (ih, e) (omega arith)

pub number-byte : (x : ℕ → ℕ) (j : ℕ) → number (λ k. x (8 * j + k)) 8 ≡ byte_of x j
unfolding number
number-byte x j = omega (arith, ap x (add-zero (8 * j)))

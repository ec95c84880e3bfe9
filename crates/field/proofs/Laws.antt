-- The laws of the field GF(256) as `rules` defines it.
-- The product is additive in both arguments, and each number below 256 is a sum of 1, 2, 4 .. 128: it commutes, since a computed test of these passes.
-- It is associative, since doubling goes out of either factor. Each element but zero is a power of α, by a computed test, and so has an inverse.
use mathlib.Core.Path.{◌≡◌, refl, sym, ap, ap₂, ◌∙◌}
use mathlib.Core.Bool.{Bool, true, false, ◌||◌, not}
use mathlib.Core.List.{List, [], ◌∷◌}
use Prim.Native.Nat.{ℕ, zero, suc, ◌+◌, ◌*◌, ◌/◌, ◌%◌, ◌^◌, ◌<◌}
use native.Mathlib.Nat.{zero-mul, one-mul, mod-lt, mod-mod, mod-eq_of_lt, add-zero, mul-zero, zero-add, suc-add, mul-suc, mul_comm}
use native.Mathlib.Omega.{arith}
use lib.Arith.{bin_ind, lt-one}
use lib.Bits.{xor_shr, xor_add_and, xor_mod, xor_block, xor_comm, xor_self, xor_zero_r, xor_lt, xor_shifted}
use lib.Pow.{pow_pos, pow-add, split, shr_lt}
use lib.Dec.{T, T_not, eqb, eqb→eq, lit<}
use lib.Ieee.Fits.{eq→eqb}
use Rattle.rules.specs.Bits.{every_below}
use Rattle.laws.specs.Every.{every-at}
use Rattle.rules.specs.Field.{◌⊕◌, ◌⊗◌, double, times, power, alpha, inverse, polynomial}

-- what holds of 0 and 1 holds of each number below 2, and of each digit
below_two : (P : ℕ → Type 0) → P 0 → P 1 → (x : ℕ) → x < 2 → P x
below_two P p q zero h = p
below_two P p q (suc zero) h = q
below_two P p q (suc (suc x)) h = absurd (omega arith)

pub bit : (P : ℕ → Type 0) → P 0 → P 1 → (n : ℕ) → P (n % 2)
bit P p q n = below_two P p q (n % 2) (omega arith)

-- ---- the sum

pub ⊕-comm : (a b : ℕ) → a ⊕ b ≡ b ⊕ a
⊕-comm = xor_comm

pub ⊕-self : (a : ℕ) → a ⊕ a ≡ 0
⊕-self = xor_self

pub ⊕-zero-r : (a : ℕ) → a ⊕ 0 ≡ a
⊕-zero-r = xor_zero_r

pub ⊕-lt : (a b : ℕ) → a < 256 → b < 256 → a ⊕ b < 256
⊕-lt = xor_lt 8

-- halves and remainders agree
pub ⊕-assoc : (a b c : ℕ) → (a ⊕ b) ⊕ c ≡ a ⊕ (b ⊕ c)
⊕-assoc =
    bin_ind (λ (a : ℕ). (b c : ℕ) → (a ⊕ b) ⊕ c ≡ a ⊕ (b ⊕ c)) (λ b c. refl) λ a ih b c.
    let halves : ((a ⊕ b) ⊕ c) / 2 ≡ (a ⊕ (b ⊕ c)) / 2 =
    xor_shr (a ⊕ b) c 1 ∙ ap (λ (x : ℕ). x ⊕ c / 2) (xor_shr a b 1) ∙ ih (b / 2) (c / 2)
    ∙ ap (λ (x : ℕ). a / 2 ⊕ x) (sym (xor_shr b c 1)) ∙ sym (xor_shr a (b ⊕ c) 1) in
    omega (arith, halves, xor_add_and (a ⊕ b) c, xor_add_and a b, xor_add_and a (b ⊕ c), xor_add_and b c)

-- two sums, added
⊕-swap : (a b c d : ℕ) → (a ⊕ b) ⊕ (c ⊕ d) ≡ (a ⊕ c) ⊕ (b ⊕ d)
⊕-swap a b c d =
    ⊕-assoc a b (c ⊕ d)
    ∙ ap (λ (x : ℕ). a ⊕ x) (sym (⊕-assoc b c d) ∙ ap (λ (x : ℕ). x ⊕ d) (⊕-comm b c) ∙ ⊕-assoc c b d)
    ∙ sym (⊕-assoc a c (b ⊕ d))

-- ---- additive functions

abbrev pub Additive : (ℕ → ℕ) → Type 0
Additive f = (a b : ℕ) → f (a ⊕ b) ≡ f a ⊕ f b

additive-zero : (f : ℕ → ℕ) → Additive f → f 0 ≡ 0
additive-zero f h = h 0 0 ∙ ⊕-self (f 0)

pub after : (f g : ℕ → ℕ) → Additive f → Additive g → Additive (λ a. f (g a))
after f g hf hg a b = ap f (hg a b) ∙ hf (g a) (g b)

pub both : (f g : ℕ → ℕ) → Additive f → Additive g → Additive (λ a. f a ⊕ g a)
both f g hf hg a b = ap₂ ◌⊕◌ (hf a b) (hg a b) ∙ ⊕-swap (f a) (f b) (g a) (g b)

pub left-additive : (k : ℕ) → Additive (λ a. a * 2 ^ k)
left-additive k a b = sym (simp add-zero at (xor_block k a b 0 0 (pow_pos k) (pow_pos k)))

pub right-additive : (k : ℕ) → Additive (λ a. a / 2 ^ k)
right-additive k a b = xor_shr a b k

pub rest-additive : (k : ℕ) → Additive (λ a. a % 2 ^ k)
rest-additive k a b = xor_mod a b k

-- a number is the sum of its part from digit n on and the rest
pub top-rest : (n a : ℕ) → a / 2 ^ n * 2 ^ n ⊕ a % 2 ^ n ≡ a
top-rest n a = xor_shifted (a / 2 ^ n) n (a % 2 ^ n) (mod-lt a (pow_pos n)) ∙ split a n

-- two additive functions that agree at the powers of two agree
module _ (f g : ℕ → ℕ) (hf : Additive f) (hg : Additive g) where
  agree-zero : f 0 ≡ g 0
  agree-zero = additive-zero f hf ∙ sym (additive-zero g hg)

  from-powers : (n : ℕ) → ((i : ℕ) → i < n → f (2 ^ i) ≡ g (2 ^ i)) → (a : ℕ) → a < 2 ^ n → f a ≡ g a
  from-powers zero e a h = rw (lt-one h) agree-zero
  from-powers (suc n) e a h =
      ap f (sym (top-rest n a)) ∙ hf _ _
      ∙ ap₂ ◌⊕◌
      (below_two (λ (x : ℕ). f (x * 2 ^ n) ≡ g (x * 2 ^ n)) (rw zero-mul agree-zero) (rw one-mul (e n (omega arith))) (a / 2 ^ n)
      (shr_lt 1 n (omega (arith, pow-add 2 1 n))))
      (from-powers n (λ i lt. e i (omega arith)) (a % 2 ^ n) (mod-lt a (pow_pos n)))
      ∙ sym (hg _ _) ∙ ap g (top-rest n a)

-- ---- the product is additive in both arguments

-- the lowest digit times c, in either factor
pub bit-times : (c : ℕ) → Additive (λ a. a % 2 * c)
bit-times c a b =
    ap (λ (x : ℕ). x * c) (xor_mod a b 1)
    ∙ bit (λ (x : ℕ). (x ⊕ b % 2) * c ≡ x * c ⊕ b % 2 * c) (rw zero-mul)
    (bit (λ (y : ℕ). (1 ⊕ y) * c ≡ 1 * c ⊕ y * c) (simp (zero-mul, ⊕-zero-r)) (simp (zero-mul, ⊕-self)) b) a

times-bit : (c : ℕ) → Additive (λ a. c % 2 * a)
times-bit c a b = bit (λ (x : ℕ). x * (a ⊕ b) ≡ x * a ⊕ x * b) (simp zero-mul) (simp one-mul) c

pub double-additive : Additive double
unfolding double
double-additive =
    both (λ a. a * 2 % 256) (λ a. a / 128 % 2 * polynomial) (after (λ a. a % 256) (λ a. a * 2) (rest-additive 8) (left-additive 1))
    (after (λ a. a % 2 * polynomial) (λ a. a / 128) (bit-times polynomial) (right-additive 7))

times-additive-l : (n c : ℕ) → Additive (λ a. times n a c)
unfolding times
times-additive-l zero c = λ a b. refl
times-additive-l (suc n) c =
    both (λ a. c % 2 * a) (λ a. times n (double a) (c / 2)) (times-bit c)
    (after (λ a. times n a (c / 2)) double (times-additive-l n (c / 2)) double-additive)

times-additive-r : (n c : ℕ) → Additive (times n c)
unfolding times
times-additive-r zero c = λ a b. refl
times-additive-r (suc n) c =
    both (λ b. b % 2 * c) (λ b. times n (double c) (b / 2)) (bit-times c)
    (after (times n (double c)) (λ b. b / 2) (times-additive-r n (double c)) (right-additive 1))

pub ⊗-⊕-l : (a b c : ℕ) → a ⊗ (b ⊕ c) ≡ a ⊗ b ⊕ a ⊗ c
unfolding ◌⊗◌
⊗-⊕-l a b c = ap (times 8 (a % 256)) (xor_mod b c 8) ∙ times-additive-r 8 (a % 256) (b % 256) (c % 256)

pub ⊗-⊕-r : (a b c : ℕ) → (a ⊕ b) ⊗ c ≡ a ⊗ c ⊕ b ⊗ c
unfolding ◌⊗◌
⊗-⊕-r a b c = ap (λ (x : ℕ). times 8 x (c % 256)) (xor_mod a b 8) ∙ times-additive-l 8 (c % 256) (a % 256) (b % 256)

pub ⊗-zero-l : (a : ℕ) → 0 ⊗ a ≡ 0
⊗-zero-l a = additive-zero (λ x. x ⊗ a) (λ x y. ⊗-⊕-r x y a)

pub ⊗-zero-r : (a : ℕ) → a ⊗ 0 ≡ 0
⊗-zero-r a = additive-zero (◌⊗◌ a) (⊗-⊕-l a)

-- ---- elements are below 256

double-lt : (a : ℕ) → double a < 256
unfolding double
double-lt a = ⊕-lt (a * 2 % 256) (a / 128 % 2 * polynomial) (omega arith) (omega arith)

times-lt : (n a b : ℕ) → a < 256 → times n a b < 256
unfolding times
times-lt zero a b h = lit< tt
times-lt (suc n) a b h =
    ⊕-lt (b % 2 * a) _ (bit (λ (x : ℕ). x * a < 256) (omega arith) (omega arith) b) (times-lt n (double a) (b / 2) (double-lt a))

pub ⊗-lt : (a b : ℕ) → a ⊗ b < 256
unfolding ◌⊗◌
⊗-lt a b = times-lt 8 (a % 256) (b % 256) (omega arith)

-- ---- the product's laws

-- additive functions agree on elements if they do at 1, 2 .. 128
agree : (f g : ℕ → ℕ) → Additive f → Additive g → T (every_below 8 (λ i. eqb (f (2 ^ i)) (g (2 ^ i)))) → (a : ℕ) → a < 256 → f a ≡ g a
agree f g hf hg t = from-powers f g hf hg 8 (λ i h. eqb→eq _ _ (every-at 8 (λ i. eqb (f (2 ^ i)) (g (2 ^ i))) t i h))

-- and functions of two elements that are additive in each, if they do where both are 1, 2 .. 128
abbrev pub Biadditive : (ℕ → ℕ → ℕ) → Type 0
Biadditive f = ((b : ℕ) → Additive (λ a. f a b)) × ((a : ℕ) → Additive (f a))

abbrev agreeing : (ℕ → ℕ → ℕ) → (ℕ → ℕ → ℕ) → ℕ → Bool
agreeing f g j = every_below 8 (λ i. eqb (f (2 ^ i) (2 ^ j)) (g (2 ^ i) (2 ^ j)))

pub agree₂ : (f g : ℕ → ℕ → ℕ) → Biadditive f → Biadditive g → T (every_below 8 (agreeing f g)) → (a b : ℕ) → a < 256 → b < 256 → f a b ≡ g a b
agree₂ f g hf hg t a b ha =
    from-powers (f a) (g a) (hf.1 a) (hg.1 a) 8
    (λ j hj. agree (λ x. f x (2 ^ j)) (λ x. g x (2 ^ j)) (hf.0 (2 ^ j)) (hg.0 (2 ^ j)) (every-at 8 (agreeing f g) t j hj) a ha) b

pub ⊗-one-l : (a : ℕ) → a < 256 → 1 ⊗ a ≡ a
unfolding ◌⊗◌ times double
⊗-one-l = agree (◌⊗◌ 1) (λ x. x) (⊗-⊕-l 1) (λ x y. refl) tt

pub double-is : (a : ℕ) → a < 256 → double a ≡ 2 ⊗ a
unfolding ◌⊗◌ times double
double-is = agree double (◌⊗◌ 2) double-additive (⊗-⊕-l 2) tt

-- what is not below 256 counts as its remainder
⊗-mod : (a b : ℕ) → (a % 256) ⊗ (b % 256) ≡ a ⊗ b
unfolding ◌⊗◌
⊗-mod a b = simp mod-mod

pub ⊗-biadditive : Biadditive ◌⊗◌
⊗-biadditive = (λ c a b. ⊗-⊕-r a b c, ⊗-⊕-l)

comm-below : (a b : ℕ) → a < 256 → b < 256 → a ⊗ b ≡ b ⊗ a
unfolding ◌⊗◌ times double
comm-below = agree₂ ◌⊗◌ (λ a b. b ⊗ a) ⊗-biadditive (⊗-biadditive.1, ⊗-biadditive.0) tt

pub ⊗-comm : (a b : ℕ) → a ⊗ b ≡ b ⊗ a
⊗-comm a b = sym (⊗-mod a b) ∙ comm-below (a % 256) (b % 256) (omega arith) (omega arith) ∙ ⊗-mod b a

pub ⊗-one-r : (a : ℕ) → a < 256 → a ⊗ 1 ≡ a
⊗-one-r a h = ⊗-comm a 1 ∙ ⊗-one-l a h

-- doubling goes out of either factor
times-double : (n a b : ℕ) → times n (double a) b ≡ double (times n a b)
unfolding times
times-double zero a b = unfold double in refl
times-double (suc n) a b =
    ap₂ ◌⊕◌ (bit (λ (x : ℕ). x * double a ≡ double (x * a)) (unfold double in simp zero-mul) (simp one-mul) b) (times-double n (double a) (b / 2))
    ∙ sym (double-additive (b % 2 * a) _)

double-out : (a b : ℕ) → b < 256 → a ⊗ double b ≡ double (a ⊗ b)
double-out a b h = ⊗-comm a (double b) ∙ left ∙ ap double (⊗-comm b a)
  where
    left : double b ⊗ a ≡ double (b ⊗ a)
    left = unfold ◌⊗◌ in rw (mod-eq_of_lt (double-lt b), mod-eq_of_lt h) (times-double 8 b (a % 256))

times-assoc : (n a b c : ℕ) → b < 256 → times n (a ⊗ b) c ≡ a ⊗ times n b c
unfolding times
times-assoc zero a b c h = sym (⊗-zero-r a)
times-assoc (suc n) a b c h =
    ap₂ ◌⊕◌ (bit (λ (x : ℕ). x * (a ⊗ b) ≡ a ⊗ (x * b)) (simp (zero-mul, ⊗-zero-r)) (simp one-mul) c)
    (ap (λ (x : ℕ). times n x (c / 2)) (sym (double-out a b h)) ∙ times-assoc n a (double b) (c / 2) (double-lt b))
    ∙ sym (⊗-⊕-l a (c % 2 * b) _)

pub ⊗-assoc : (a b c : ℕ) → (a ⊗ b) ⊗ c ≡ a ⊗ (b ⊗ c)
⊗-assoc a b c = left ∙ times-assoc 8 a (b % 256) (c % 256) (omega arith) ∙ right
  where
    left : (a ⊗ b) ⊗ c ≡ times 8 (a ⊗ (b % 256)) (c % 256)
    left = unfold ◌⊗◌ in rw (mod-mod b 256) (ap (λ (x : ℕ). times 8 x (c % 256)) (mod-eq_of_lt (⊗-lt a b)))

    right : a ⊗ times 8 (b % 256) (c % 256) ≡ a ⊗ (b ⊗ c)
    right = unfold ◌⊗◌ in refl

-- ---- powers

pub power-suc : (a k : ℕ) → power a (suc k) ≡ a ⊗ power a k
unfolding power
power-suc a k = refl

pub power-lt : (a k : ℕ) → power a k < 256
unfolding power
power-lt a zero = lit< tt
power-lt a (suc k) = ⊗-lt a (power a k)

pub power-add : (a j k : ℕ) → power a (j + k) ≡ power a j ⊗ power a k
unfolding power
power-add a zero k = ap (power a) (zero-add k) ∙ sym (⊗-one-l (power a k) (power-lt a k))
power-add a (suc j) k = ap (power a) (suc-add j k) ∙ ap (◌⊗◌ a) (power-add a j k) ∙ sym (⊗-assoc a (power a j) (power a k))

pub power-mul : (a j k : ℕ) → power (power a j) k ≡ power a (j * k)
unfolding power
power-mul a j zero = ap (power a) (sym (mul-zero j))
power-mul a j (suc k) =
    ⊗-comm (power a j) _ ∙ ap (λ (x : ℕ). x ⊗ power a j) (power-mul a j k) ∙ sym (power-add a (j * k) j) ∙ ap (power a) (sym (mul-suc j k))

pub alpha-lt : (k : ℕ) → alpha k < 256
unfolding alpha
alpha-lt zero = lit< tt
alpha-lt (suc k) = double-lt (alpha k)

pub alpha-is : (k : ℕ) → alpha k ≡ power 2 k
unfolding alpha power
alpha-is zero = refl
alpha-is (suc k) = double-is (alpha k) (alpha-lt k) ∙ ap (◌⊗◌ 2) (alpha-is k)

pub alpha-mul : (j k : ℕ) → power (alpha j) k ≡ alpha (j * k)
alpha-mul j k = ap (λ (x : ℕ). power x k) (alpha-is j) ∙ power-mul 2 j k ∙ sym (alpha-is (j * k))

-- ---- α has the order 255, and each element but zero is a power of it

power-one : (k : ℕ) → power 1 k ≡ 1
unfolding power
power-one zero = refl
power-one (suc k) = ⊗-one-l (power 1 k) (power-lt 1 k) ∙ power-one k

alpha-255 : alpha 255 ≡ 1
unfolding alpha double
alpha-255 = refl

alpha-round : (k : ℕ) → alpha (k * 255) ≡ 1
alpha-round k = ap alpha (mul_comm k 255) ∙ sym (alpha-mul 255 k) ∙ ap (λ (x : ℕ). power x k) alpha-255 ∙ power-one k

-- n elements from x on, each α times the one before
orbit : ℕ → ℕ → List ℕ
orbit zero x = []
orbit (suc n) x = x ∷ orbit n (double x)

among : ℕ → List ℕ → Bool
among a [] = false
among a (x ∷ l) = eqb a x || among a l

either : {A : Type 0} (b c : Bool) → (T b → A) → (T c → A) → T (b || c) → A
either true c f g t = f tt
either false c f g t = g t

found : (a n k : ℕ) → T (among a (orbit n (alpha k))) → (j : ℕ) × (a ≡ alpha j)
unfolding among orbit alpha
found a zero k t = absurd t
found a (suc n) k t = either (eqb a (alpha k)) _ (λ e. (k, eqb→eq a (alpha k) e)) (found a n (suc k)) t

all_among : List ℕ → Bool
all_among l = every_below 255 (λ i. among (suc i) l)

orbit-test : T (all_among (orbit 255 1))
unfolding all_among among orbit double
orbit-test = tt

log : (a : ℕ) → a < 256 → ¬ (a ≡ 0) → (k : ℕ) × (a ≡ alpha k)
unfolding all_among alpha
log zero h ne = absurd (ne refl)
log (suc a) h ne = found (suc a) 255 0 (every-at 255 (λ i. among (suc i) (orbit 255 1)) orbit-test a (omega arith))

-- the power 255 of a power of α, with one factor apart
alpha-inverse : (k : ℕ) → alpha k ⊗ power (alpha k) 254 ≡ 1
alpha-inverse k = sym (power-suc (alpha k) 254) ∙ alpha-mul k 255 ∙ alpha-round k

pub alpha-nonzero : (k : ℕ) → ¬ (alpha k ≡ 0)
alpha-nonzero k e = omega (arith, sym (⊗-zero-l (power (alpha k) 254)) ∙ ap (λ (x : ℕ). x ⊗ power (alpha k) 254) (sym e) ∙ alpha-inverse k)

abbrev apart : ℕ → ℕ → Bool
apart i j = eqb i j || not (eqb (alpha i) (alpha j))

apart-test : T (every_below 16 (λ i. every_below 16 (apart i)))
unfolding alpha double
apart-test = tt

pub alpha-distinct : (i j : ℕ) → i < 16 → j < 16 → alpha i ≡ alpha j → i ≡ j
alpha-distinct i j hi hj e =
    either (eqb i j) (not (eqb (alpha i) (alpha j))) (eqb→eq i j) (λ t. absurd (T_not (eqb (alpha i) (alpha j)) t (eq→eqb e)))
    (every-at 16 (apart i) (every-at 16 (λ i. every_below 16 (apart i)) apart-test i hi) j hj)

pub inverse-law : (a : ℕ) → a < 256 → ¬ (a ≡ 0) → a ⊗ inverse a ≡ 1
unfolding inverse
inverse-law a h ne = let l = log a h ne in rw l.1 (alpha-inverse l.0)

-- the inverse of zero is answered as zero
pub inverse-zero : inverse 0 ≡ 0
unfolding inverse
inverse-zero = power-suc 0 253 ∙ ⊗-zero-l (power 0 253)

pub no-zero-divisors : (a b : ℕ) → a < 256 → b < 256 → a ⊗ b ≡ 0 → ¬ (a ≡ 0) → b ≡ 0
no-zero-divisors a b ha hb e ne =
    sym (⊗-one-l b hb) ∙ ap (λ (x : ℕ). x ⊗ b) (sym (inverse-law a ha ne) ∙ ⊗-comm a (inverse a)) ∙ ⊗-assoc (inverse a) a b
    ∙ ap (◌⊗◌ (inverse a)) e ∙ ⊗-zero-r (inverse a)

-- The address is one to one and onto on the counters 0 .. 32 × 2 ^ n - 1, for any width n and any 32 odd multipliers D.
use mathlib.Core.Path.{◌≡◌, sym, ap, ap₂, ◌∙◌}
use Prim.Native.Nat.{ℕ, ◌+◌, ◌*◌, ◌/◌, ◌%◌, ◌^◌, ◌<◌}
use native.Mathlib.Nat.{mul_comm, mod-lt, div-add-mod, div-lt_iff_lt-mul}
use native.Mathlib.Omega.{arith}
use lib.Dec.{eqb}
use lib.Pow.{pow_pos}
use lib.Arith.{digits_lt, digits_div, digits_mod}
use lib.Dec.{eqb→eq}
use Rattle.rules.specs.Kept.{reversed}
use Rattle.rules.specs.Interleaver.{address}
use Rattle.laws.specs.Every.{every-at}
use Rattle.interleaver.proofs.Odd.{Inverse, inverse, unstep, unstep-step, step-unstep, unstep-lt}

reversed-lt : (i : ℕ) → reversed 5 i < 32
reversed-lt i = omega arith

reversed-twice : {i : ℕ} → i < 32 → reversed 5 (reversed 5 i) ≡ i
reversed-twice {i} lt = eqb→eq _ _ (every-at 32 (λ i. eqb (reversed 5 (reversed 5 i)) i) tt i lt)

module _ (n : ℕ) (D : ℕ → ℕ) where
  digits : (m : ℕ) → address n D m ≡ reversed 5 (m % 32) * 2 ^ n + D (m % 32) * (m / 32 + 1) % 2 ^ n
  unfolding address
  digits m = rw (mul_comm (2 ^ n))

  low-lt : (m : ℕ) → D (m % 32) * (m / 32 + 1) % 2 ^ n < 2 ^ n
  low-lt m = mod-lt _ (pow_pos n)

  high : (m : ℕ) → address n D m / 2 ^ n ≡ reversed 5 (m % 32)
  high m = rw (digits m) (digits_div (reversed 5 (m % 32)) (low-lt m))

  low : (m : ℕ) → address n D m % 2 ^ n ≡ D (m % 32) * (m / 32 + 1) % 2 ^ n
  low m = rw (digits m) (digits_mod (reversed 5 (m % 32)) (low-lt m))

  address-of : (x i : ℕ) → i < 32 → address n D (x * 32 + i) ≡ 2 ^ n * reversed 5 i + D i * (x + 1) % 2 ^ n
  unfolding address
  address-of x i lt = rw (digits_mod x lt, digits_div x lt)

module _ (n : ℕ) (D : ℕ → ℕ) (odd : (i : ℕ) → i < 32 → D i % 2 ≡ 1) where
  pub address-injective : (a b : ℕ) → a < 32 * 2 ^ n → b < 32 * 2 ^ n → address n D a ≡ address n D b → a ≡ b
  address-injective a b alt blt e = omega (arith, I0, I1)
    where
      I0 : a % 32 ≡ b % 32
      I0 =
          sym (reversed-twice (omega arith)) ∙ ap (λ (q : ℕ). reversed 5 q) (sym (high n D a) ∙ ap (λ (x : ℕ). x / 2 ^ n) e ∙ high n D b)
          ∙ reversed-twice (omega arith)

      i : Inverse (D (a % 32)) n
      i = inverse (D (a % 32)) (odd (a % 32) (omega arith)) n

      lows : D (a % 32) * (a / 32 + 1) % 2 ^ n ≡ D (a % 32) * (b / 32 + 1) % 2 ^ n
      lows =
          sym (low n D a) ∙ ap (λ (x : ℕ). x % 2 ^ n) e ∙ low n D b ∙ ap (λ (j : ℕ). D j * (b / 32 + 1) % 2 ^ n) (sym I0)

      I1 : a / 32 ≡ b / 32
      I1 = sym (unstep-step n i (omega arith)) ∙ ap (unstep n i.by) lows ∙ unstep-step n i (omega arith)

  -- the multiplier's inverse at an address
  at : (a : ℕ) → Inverse (D (reversed 5 (a / 2 ^ n))) n
  at a = inverse (D (reversed 5 (a / 2 ^ n))) (odd (reversed 5 (a / 2 ^ n)) (reversed-lt (a / 2 ^ n))) n

  -- the counter of an address
  pub back : ℕ → ℕ
  back a = unstep n (at a).by (a % 2 ^ n) * 32 + reversed 5 (a / 2 ^ n)

  pub back-lt : (a : ℕ) → back a < 32 * 2 ^ n
  unfolding back
  back-lt a = omega (arith, digits_lt (unstep-lt n (at a).by (a % 2 ^ n)) (reversed-lt (a / 2 ^ n)))

  pub address-back : (a : ℕ) → a < 32 * 2 ^ n → address n D (back a) ≡ a
  unfolding back
  address-back a lt =
      address-of n D (unstep n (at a).by (a % 2 ^ n)) (reversed 5 (a / 2 ^ n)) (reversed-lt (a / 2 ^ n))
      ∙ ap₂ (λ (u v : ℕ). 2 ^ n * u + v) (reversed-twice ((div-lt_iff_lt-mul (pow_pos n)).1 lt))
      (step-unstep n (at a) (mod-lt a (pow_pos n)))
      ∙ div-add-mod a (2 ^ n)

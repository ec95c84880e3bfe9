-- An odd number d has an inverse modulo 2 ^ n, so x ↦ d (x + 1) mod 2 ^ n is one to one and onto.
use mathlib.Core.Path.{◌≡◌, sym, ap, ◌∙◌}
use Prim.Native.Nat.{ℕ, zero, suc, ◌+◌, ◌-◌, ◌*◌, ◌/◌, ◌%◌, ◌^◌, ◌<◌}
use native.Mathlib.Nat.{mul_comm, mul_right_comm, mul_assoc, mul-add, add-mul, pow-suc}
use native.Mathlib.Nat.{mod-lt, mod-eq_of_lt, mod-add-mod, add-mod_right, add-mul-mod_self_right, div-add-mod'}
use native.Mathlib.Omega.{arith}
use native.Mathlib.Decide.{ℕ_discrete}
use lib.Pow.{pow_pos}

-- d × by is 1 and some turns of 2 ^ n
pub record Inverse (d n : ℕ) : Type 0 where
  pub by : ℕ
  pub turns : ℕ
  pub one : d * by ≡ 1 + turns * 2 ^ n

even_up : (t n : ℕ) → t % 2 ≡ 0 → t / 2 * 2 ^ suc n ≡ t * 2 ^ n
even_up t n e = let h : t / 2 * 2 ≡ t = omega arith in rw (pow-suc, mul_comm (2 ^ n) 2, ← mul_assoc, h)

-- from n to n + 1: an odd number of turns is made even by one more 2 ^ n
pub inverse : (d : ℕ) → d % 2 ≡ 1 → (n : ℕ) → Inverse d n
inverse d odd zero = record { by = 1; turns = d - 1; one = omega arith }
inverse d odd (suc n) = go (inverse d odd n)
  where
    go : Inverse d n → Inverse d (suc n)
    go i = half (ℕ_discrete (i.turns % 2) 0)
      where
        half : Dec (i.turns % 2 ≡ 0) → Inverse d (suc n)
        half (yes e) = record { by = i.by; turns = i.turns / 2; one = rw (even_up i.turns n e) i.one }
        half (no e) =
            record {
              by = i.by + 2 ^ n;
              turns = (i.turns + d) / 2;
              one = rw (even_up (i.turns + d) n (omega arith), mul-add, add-mul) (omega (arith, i.one));
            }

-- a factor that stands under the remainder
mul-mod-mod : (a y M : ℕ) → a * (y % M) % M ≡ a * y % M
mul-mod-mod a y M = sym (ap (λ (z : ℕ). z % M) split ∙ add-mul-mod_self_right (a * (y % M)) (a * (y / M)) M)
  where
    split : a * y ≡ a * (y % M) + a * (y / M) * M
    split = omega (arith, ap (λ (z : ℕ). a * z) (div-add-mod' y M), mul-add a (y / M * M) (y % M), mul_assoc a (y / M) M)

-- what takes d (x + 1) mod 2 ^ n back to x, by the inverse e of d
unfoldable pub unstep : ℕ → ℕ → ℕ → ℕ
unstep n e r = (e * r + (2 ^ n - 1)) % 2 ^ n

pub unstep-lt : (n e r : ℕ) → unstep n e r < 2 ^ n
unfolding unstep
unstep-lt n e r = mod-lt (e * r + (2 ^ n - 1)) (pow_pos n)

module _ (n : ℕ) where
  -- a and b are each other's inverse
  undo : (a b k : ℕ) → a * b ≡ 1 + k * 2 ^ n → (x : ℕ) → a * (b * x % 2 ^ n) % 2 ^ n ≡ x % 2 ^ n
  undo a b k one x = mul-mod-mod a (b * x) (2 ^ n) ∙ ap (λ (z : ℕ). z % 2 ^ n) turned ∙ add-mul-mod_self_right x (k * x) (2 ^ n)
    where
      turned : a * (b * x) ≡ x + k * x * 2 ^ n
      turned = omega (arith, mul_assoc a b x, ap (λ (z : ℕ). z * x) one, add-mul 1 (k * 2 ^ n) x, mul_right_comm k (2 ^ n) x)

  -- a whole turn
  around : (x y : ℕ) → y ≡ x + 2 ^ n → y % 2 ^ n ≡ x % 2 ^ n
  around x y e = ap (λ (z : ℕ). z % 2 ^ n) e ∙ add-mod_right x (2 ^ n)

  module _ {d : ℕ} (i : Inverse d n) where
    pub unstep-step : {x : ℕ} → x < 2 ^ n → unstep n i.by (d * (x + 1) % 2 ^ n) ≡ x
    unfolding unstep
    unstep-step {x} lt =
        sym (mod-add-mod (i.by * (d * (x + 1) % 2 ^ n)) (2 ^ n) (2 ^ n - 1))
        ∙ ap (λ (y : ℕ). (y + (2 ^ n - 1)) % 2 ^ n) (undo i.by d i.turns (mul_comm i.by d ∙ i.one) (x + 1))
        ∙ mod-add-mod (x + 1) (2 ^ n) (2 ^ n - 1)
        ∙ around x (x + 1 + (2 ^ n - 1)) (omega (arith, pow_pos n))
        ∙ mod-eq_of_lt lt

    pub step-unstep : {r : ℕ} → r < 2 ^ n → d * (unstep n i.by r + 1) % 2 ^ n ≡ r
    unfolding unstep
    step-unstep {r} lt =
        sym (mul-mod-mod d ((i.by * r + (2 ^ n - 1)) % 2 ^ n + 1) (2 ^ n))
        ∙ ap (λ (y : ℕ). d * y % 2 ^ n)
        (mod-add-mod (i.by * r + (2 ^ n - 1)) (2 ^ n) 1 ∙ around (i.by * r) (i.by * r + (2 ^ n - 1) + 1) (omega (arith, pow_pos n)))
        ∙ undo d i.by i.turns i.one r
        ∙ mod-eq_of_lt lt

-- The lost mask: bit p is set exactly where packet p has a reason.
use Rattle.std.specs.Prelude.{◌≡◌, refl, Bool, true, false, ℕ, zero, suc, ◌+◌, ◌-◌, ◌*◌, ◌/◌, ◌%◌, ◌^◌, ◌<◌, ◌≤◌, eqb}
use Rattle.std.proofs.Common.{sym, ◌∙◌, ap, ap₂, add-one, arith, eqb-true}
use Rattle.std.proofs.Math.Decide.{ℕ_discrete}
use Rattle.std.proofs.Math.Pow.{high, low, field, mod-mod-pow}
use Rattle.rules.specs.Bits.{pick}
use Rattle.rules.specs.Outer.{marked}
use Rattle.rules.specs.Block.{lost_mask}

-- what packet n adds
mark_of : (b : Bool) (n : ℕ) → pick b 0 (2 ^ n) ≡ pick b 0 1 * 2 ^ n
mark_of true n = omega arith
mark_of false n = omega arith

mark-le : (b : Bool) (n : ℕ) → pick b 0 (2 ^ n) ≤ 2 ^ n
mark-le true n = omega arith
mark-le false n = omega arith

mark-bit : (b : Bool) → pick b 0 1 < 2
mark-bit true = omega arith
mark-bit false = omega arith

-- a low bit goes by the low places
pub marked-low : (a n p : ℕ) → p < n → marked a p ≡ marked (a % 2 ^ n) p
marked-low a n p h =
    let j : ℕ = n - suc p in
    let e : j + (1 + p) ≡ n = omega arith in
    sym (field a 1 p)
    ∙ ap (λ (x : ℕ). x / 2 ^ p) (sym (mod-mod-pow a j (1 + p)) ∙ ap (λ (k : ℕ). a % 2 ^ k % 2 ^ (1 + p)) e)
    ∙ field (a % 2 ^ n) 1 p

module _ (r : ℕ → ℕ) where
  abbrev bit : ℕ → ℕ
  bit n = pick (eqb (r n) 0) 0 1

  pub mask_next : (n : ℕ) → lost_mask (n + 1) r ≡ lost_mask n r + pick (eqb (r n) 0) 0 (2 ^ n)
  mask_next n = rw add-one

  mask-suc : (n : ℕ) → lost_mask (suc n) r ≡ bit n * 2 ^ n + lost_mask n r
  mask-suc n = omega (arith, mark_of (eqb (r n) 0) n)

  pub mask_lt : (n : ℕ) → lost_mask n r < 2 ^ n
  mask_lt zero = omega arith
  mask_lt (suc n) = omega (arith, mask_lt n, mark-le (eqb (r n) 0) n)

  pub mask-marked : (n p : ℕ) → p < n → marked (lost_mask n r) p ≡ bit p
  mask-marked zero p h = absurd (omega arith)
  mask-marked (suc n) p h = go (ℕ_discrete p n) (mask-marked n p)
    where
      all : ℕ
      all = bit n * 2 ^ n + lost_mask n r

      go : Dec (p ≡ n) → (p < n → marked (lost_mask n r) p ≡ bit p) → marked (lost_mask (suc n) r) p ≡ bit p
      go (yes e) before =
          ap₂ marked (mask-suc n) e ∙ ap (λ (x : ℕ). x % 2) (high (bit n) n (mask_lt n)) ∙ omega (arith, mark-bit (eqb (r n) 0)) ∙ ap bit (sym e)
      go (no ne) before =
          ap (λ (x : ℕ). marked x p) (mask-suc n) ∙ marked-low all n p (omega arith)
          ∙ ap (λ (x : ℕ). marked x p) (low (bit n) n (mask_lt n)) ∙ before (omega arith)

  pub mask-kept : (n p : ℕ) → p < n → marked (lost_mask n r) p ≡ 0 → r p ≡ 0
  mask-kept n p h e = go (eqb (r p) 0) refl
    where
      go : (b : Bool) → eqb (r p) 0 ≡ b → r p ≡ 0
      go true z = eqb-true (r p) 0 z
      go false z = absurd (omega (arith, e, mask-marked n p h ∙ ap (λ (b : Bool). pick b 0 1) z))

pub mask-same : (n : ℕ) {r s : ℕ → ℕ} → ((p : ℕ) → p < n → r p ≡ s p) → lost_mask n r ≡ lost_mask n s
mask-same zero e = refl
mask-same (suc n) e = ap₂ (λ (a k : ℕ). a + pick (eqb k 0) 0 (2 ^ n)) (mask-same n (λ p h. e p (omega arith))) (e n (omega arith))

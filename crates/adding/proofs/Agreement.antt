-- Mask and reasons agree exactly where they say the same of each packet.
use mathlib.Core.Path.{◌≡◌, sym, ap, ap₂, subst, ◌∙◌}
use mathlib.Core.Bool.{Bool}
use mathlib.Core.Logic.{◌↔◌}
use Prim.Native.Nat.{ℕ, zero, suc, ◌+◌, ◌*◌, ◌/◌, ◌%◌, ◌^◌, ◌<◌}
use native.Mathlib.Nat.{mod-lt}
use native.Mathlib.Decide.{ℕ_discrete}
use native.Mathlib.Omega.{arith}
use lib.Dec.{T, eqb, eqb→eq, lit<}
use lib.Ieee.Fits.{and_i, and_l, and_r}
use lib.Pow.{recompose, pow_pos}
use borrow.Author.Tests.{eq-eqb, ne_eqb}
use Rattle.rules.specs.Bits.{pick, row, every_below}
use Rattle.rules.specs.Answers.{is_reason}
use Rattle.rules.specs.Outer.{marked}
use Rattle.rules.specs.Block.{lost_mask}
use Rattle.rules.specs.Totals.{agrees}
use Rattle.rules.specs.Demands.{InAgreement}
use Rattle.rules.specs.declared.Receipt.{Receipt}
use Rattle.laws.specs.Every.{every-at, every_of}
use Rattle.laws.specs.Mask.{marked-low, mask_lt, mask-marked}

-- two masks with the same bits are the same
same_bits_lem : (n x y : ℕ) → x < 2 ^ n → y < 2 ^ n → ((p : ℕ) → p < n → marked x p ≡ marked y p) → x ≡ y
same_bits_lem zero x y lx ly same = omega (arith, lx, ly)
same_bits_lem (suc n) x y lx ly same =
    let one_more : suc n ≡ 1 + n = omega arith in
    let low_same : x % 2 ^ n ≡ y % 2 ^ n =
    same_bits_lem n (x % 2 ^ n) (y % 2 ^ n) (mod-lt x (pow_pos n)) (mod-lt y (pow_pos n))
    (λ p lt. sym (marked-low x n p lt) ∙ same p (omega arith) ∙ marked-low y n p lt) in
    sym (recompose 1 n (subst (λ (m : ℕ). x < 2 ^ m) one_more lx))
    ∙ ap₂ (λ (h l : ℕ). h * 2 ^ n + l) (same n (omega arith)) low_same
    ∙ recompose 1 n (subst (λ (m : ℕ). y < 2 ^ m) one_more ly)

module _ (a : Receipt) where
  abbrev reason : ℕ → ℕ
  reason = row a.reasons

  bit-of : (p : ℕ) (b : ℕ) → b ≡ pick (eqb (reason p) 0) 0 1 → (b ≡ 1) ↔ ¬ (reason p ≡ 0)
  bit-of p b e = go (ℕ_discrete (reason p) 0)
    where
      go : Dec (reason p ≡ 0) → (b ≡ 1) ↔ ¬ (reason p ≡ 0)
      go (yes z) =
          let clear : b ≡ 0 = e ∙ ap {B = ℕ} (λ (t : Bool). pick t 0 1) (eq-eqb (reason p) 0 z) in
          (λ set. absurd (omega (arith, clear, set)), λ ne. absurd (ne z))
      go (no ne) = (λ set. ne, λ other. e ∙ ap {B = ℕ} (λ (t : Bool). pick t 0 1) (ne_eqb (reason p) 0 ne))

  pub in-agreement : T (agrees a) → InAgreement a
  in-agreement t p lt =
      let mask = and_l (eqb a.lost (lost_mask 16 reason)) (every_below 16 (λ q. is_reason (reason q))) t in
      let known = and_r (eqb a.lost (lost_mask 16 reason)) (every_below 16 (λ q. is_reason (reason q))) t in (
        every-at 16 (λ q. is_reason (reason q)) known p lt,
        bit-of p (marked a.lost p) (ap (λ (m : ℕ). marked m p) (eqb→eq a.lost (lost_mask 16 reason) mask) ∙ mask-marked reason 16 p lt),
      )

  pub agreement : a.lost < 2 ^ 16 → InAgreement a → T (agrees a)
  agreement small h =
      let mask : a.lost ≡ lost_mask 16 reason =
      same_bits_lem 16 a.lost (lost_mask 16 reason) small (mask_lt reason 16) (λ p lt. bit_is p lt (h p lt).1 ∙ sym (mask-marked reason 16 p lt)) in
      and_i (eqb a.lost (lost_mask 16 reason)) (every_below 16 (λ q. is_reason (reason q)))
      (subst T (sym (eq-eqb a.lost (lost_mask 16 reason) mask)) tt) (every_of 16 (λ q. is_reason (reason q)) (λ p lt. (h p lt).0))
    where
      bit_is : (p : ℕ) → p < 16 → (marked a.lost p ≡ 1) ↔ ¬ (reason p ≡ 0) → marked a.lost p ≡ pick (eqb (reason p) 0) 0 1
      bit_is p lt says = go (ℕ_discrete (reason p) 0)
        where
          go : Dec (reason p ≡ 0) → marked a.lost p ≡ pick (eqb (reason p) 0) 0 1
          go (yes z) =
              let clear : ¬ (marked a.lost p ≡ 1) = λ set. says.0 set z in
              let bit : marked a.lost p < 2 = mod-lt (a.lost / 2 ^ p) (lit< tt) in
              omega (arith, clear, bit) ∙ sym (ap {B = ℕ} (λ (t : Bool). pick t 0 1) (eq-eqb (reason p) 0 z))
          go (no ne) = says.1 ne ∙ sym (ap {B = ℕ} (λ (t : Bool). pick t 0 1) (ne_eqb (reason p) 0 ne))

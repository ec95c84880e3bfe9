-- The ones of a mask are as many as its marked places, and so many are before each; the mask of the last r packets has r.
use mathlib.Core.Path.{◌≡◌, refl, sym, ap, ap₂, ◌∙◌, subst}
use Prim.Native.Nat.{ℕ, zero, suc, ◌+◌, ◌-◌, ◌*◌, ◌/◌, ◌%◌, ◌^◌, ◌≤◌, ◌<◌}
use native.Mathlib.Nat.{add-zero, le_refl}
use native.Mathlib.Numerals.{add-one}
use native.Mathlib.Decide.{ℕ_discrete}
use native.Mathlib.Omega.{arith}
use lib.Count.{ones, ones_step, ones_cat, ones-ones}
use lib.Dec.{eqb}
use lib.Pow.{pow_pos, shl_lt, shl-shr, shr-shr, high, ones_lt, ones_split}
use borrow.Author.Tests.{eq-eqb, ne_eqb}
use Rattle.rules.specs.Bits.{pick}
use Rattle.rules.specs.Outer.{marked}
use Rattle.outer.specs.Solve.{tally}

pub tally-same : (n : ℕ) {f g : ℕ → ℕ} → ((k : ℕ) → k < n → f k ≡ g k) → tally f n ≡ tally g n
unfolding tally
tally-same zero e = refl
tally-same (suc n) e = ap₂ ◌+◌ (tally-same n (λ k h. e k (omega arith))) (e n (omega arith))

-- the term at p apart
pub tally-but : (f : ℕ → ℕ) (p n : ℕ) → p < n → tally (λ k. pick (eqb k p) 0 (f k)) n + f p ≡ tally f n
unfolding tally
tally-but f p zero h = absurd (omega arith)
tally-but f p (suc n) h = go (ℕ_discrete n p) (tally-but f p n)
  where
    go : Dec (n ≡ p) → (p < n → tally (λ k. pick (eqb k p) 0 (f k)) n + f p ≡ tally f n)
        → tally (λ k. pick (eqb k p) 0 (f k)) n + pick (eqb n p) 0 (f n) + f p ≡ tally f n + f n
    go (yes e) before =
        let same : tally (λ k. pick (eqb k p) 0 (f k)) n ≡ tally f n = tally-same n (λ k l. rw (ne_eqb k p (omega arith))) in
        rw (eq-eqb n p e) (omega (arith, ap f e))
    go (no ne) before = rw (ne_eqb n p ne) (omega (arith, before (omega arith)))

-- the lowest place apart
marked-suc : (m p : ℕ) → marked m (suc p) ≡ marked (m / 2) p
marked-suc m p = let e : suc p ≡ 1 + p = omega arith in ap (λ (q : ℕ). m / 2 ^ q % 2) e ∙ ap (λ (q : ℕ). q % 2) (sym (shr-shr m 1 p))

tally-first : (m n : ℕ) → tally (marked m) (suc n) ≡ m % 2 + tally (marked (m / 2)) n
unfolding tally
tally-first m zero = omega arith
tally-first m (suc n) = omega (arith, tally-first m n, marked-suc m n)

pub ones-count : (n m : ℕ) → m < 2 ^ n → ones m ≡ tally (marked m) n
unfolding tally ones
ones-count zero m h = let e : m ≡ 0 = omega arith in ap ones e
ones-count (suc n) m h = ones_step m ∙ ap (λ (s : ℕ). m % 2 + s) (ones-count n (m / 2) (omega arith)) ∙ sym (tally-first m n)

-- ---- the mask of the last r of 16 packets

unfoldable pub tail : ℕ → ℕ
tail r = (2 ^ r - 1) * 2 ^ (16 - r)

pub tail-fits : (r : ℕ) → r ≤ 16 → tail r < 2 ^ 16
unfolding tail
tail-fits r h = let e : r + (16 - r) ≡ 16 = omega arith in subst (λ (n : ℕ). tail r < 2 ^ n) e (shl_lt r (16 - r) (ones_lt r))

pub tail-ones : (r : ℕ) → ones (tail r) ≡ r
unfolding tail ones
tail-ones r = ap ones (sym (add-zero (tail r))) ∙ ones_cat (16 - r) (2 ^ r - 1) 0 (pow_pos (16 - r)) ∙ add-zero (ones (2 ^ r - 1)) ∙ ones-ones r

pub tail-marked : (r i : ℕ) → i < r → marked (tail r) (16 - r + i) ≡ 1
unfolding tail
tail-marked r i l =
    let e : ℕ = r - suc i in
    let parts : r ≡ suc e + i = omega arith in
    ap (λ (q : ℕ). q % 2)
    (sym (shr-shr (tail r) (16 - r) i)
    ∙ ap (λ (q : ℕ). q / 2 ^ i) (shl-shr (2 ^ r - 1) (16 - r) ∙ ap (λ (n : ℕ). 2 ^ n - 1) parts ∙ ones_split (suc e) i)
    ∙ high (2 ^ suc e - 1) i (ones_lt i))
    ∙ omega (arith, pow_pos e)

-- ---- places: a marked one comes after as many as there are marked before it

tally-le : (f : ℕ → ℕ) (m n : ℕ) → m ≤ n → tally f m ≤ tally f n
unfolding tally
tally-le f m zero h = let e : m ≡ 0 = omega arith in rw e (le_refl 0)
tally-le f m (suc n) h = go (ℕ_discrete m (suc n)) (tally-le f m n)
  where
    go : Dec (m ≡ suc n) → (m ≤ n → tally f m ≤ tally f n) → tally f m ≤ tally f n + f n
    go (yes e) before = rw e (le_refl (tally f (suc n)))
    go (no ne) before = omega (arith, before (omega arith))

pub tally-next : (f : ℕ → ℕ) (n : ℕ) → tally f (n + 1) ≡ tally f n + f n
unfolding tally
tally-next f n = rw (add-one n)

pub tally-lt : (f : ℕ → ℕ) (m n : ℕ) → m < n → f m ≡ 1 → tally f m < tally f n
tally-lt f m n h e = omega (arith, tally-next f m, tally-le f (m + 1) n (omega arith))

pub place-lt : (m p : ℕ) → m < 2 ^ 16 → ones m ≤ 8 → p < 16 → marked m p ≡ 1 → tally (marked m) p < 8
place-lt m p fits few l e = omega (arith, tally-lt (marked m) p 16 l e, ones-count 16 m fits)

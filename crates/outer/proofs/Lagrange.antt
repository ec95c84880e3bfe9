-- Lagrange's polynomials: the product of (x ⊕ node k) over some k is zero at these nodes and at no other, and `basis` has its coefficients.
use mathlib.Core.Path.{◌≡◌, sym, ap, ap₂, ◌∙◌}
use mathlib.Core.Bool.{Bool, true, false}
use Prim.Native.Nat.{ℕ, zero, suc, ◌+◌, ◌-◌, ◌≤◌, ◌<◌}
use native.Mathlib.Decide.{ℕ_discrete}
use native.Mathlib.Omega.{arith}
use lib.Dec.{T, eqb-suc-zero, lit<}
use borrow.Author.Tests.{ne_eqb}
use Rattle.rules.specs.Bits.{pick}
use Rattle.rules.specs.Field.{◌⊕◌, ◌⊗◌, power}
use Rattle.outer.specs.Solve.{sum, tally, node, raised, basis, product}
use Rattle.field.proofs.Laws.{⊕-self, ⊕-lt, ⊕-zero-r, ⊗-assoc, ⊗-lt, ⊗-one-l, ⊗-zero-l, ⊗-zero-r, ⊗-⊕-r, alpha-distinct, alpha-lt, no-zero-divisors}
use Rattle.outer.proofs.Poly.{pick-lt, ⊕-zero-same, ⊗-left, sum_same, sum-⊕, sum-⊗, sum_first, sum_one}

-- x f and a f together are (x ⊕ a) f
grown : (m : ℕ) (f : ℕ → ℕ) (a x : ℕ) → f m ≡ 0
    → sum (suc m) (λ j. (raised f j ⊕ a ⊗ f j) ⊗ power x j) ≡ (x ⊕ a) ⊗ sum (suc m) (λ j. f j ⊗ power x j)
unfolding raised sum power
grown m f a x h =
    sum_same (suc m) (λ j l. ⊗-⊕-r (raised f j) (a ⊗ f j) (power x j) ∙ ap (◌⊕◌ (raised f j ⊗ power x j)) (⊗-assoc a (f j) (power x j)))
    ∙ sum-⊕ (suc m) (λ j. raised f j ⊗ power x j) (λ j. a ⊗ term j)
    ∙ ap₂ ◌⊕◌ shift (sum-⊗ (suc m) a term)
    ∙ sym (⊗-⊕-r x a (sum (suc m) term))
  where
    term : ℕ → ℕ
    term j = f j ⊗ power x j

    step : (k : ℕ) → k < m → raised f (suc k) ⊗ power x (suc k) ≡ x ⊗ term k
    step k l = let e : suc k - 1 ≡ k = omega arith in rw (eqb-suc-zero k, e) (⊗-left (f k) x (power x k))

    shift : sum (suc m) (λ j. raised f j ⊗ power x j) ≡ x ⊗ sum (suc m) term
    shift =
        sum_first m (λ j. raised f j ⊗ power x j) ∙ ap₂ ◌⊕◌ (⊗-zero-l 1) (sum_same m step ∙ sum-⊗ m x term)
        ∙ ap (◌⊗◌ x) (rw (h, ⊗-zero-l, ⊕-zero-r))

module _ (t : ℕ → Bool) where
  -- how many factors there are
  unfoldable pub degree : ℕ → ℕ
  degree n = tally (λ k. pick (t k) 1 0) n

  -- the coefficients end there
  basis-zero : (n j : ℕ) → degree n < j → basis t n j ≡ 0
  unfolding degree tally basis raised
  basis-zero zero j h = rw (ne_eqb j 0 (omega arith))
  basis-zero (suc n) j h = go (t n) h (basis-zero n)
    where
      go : (b : Bool) → degree n + pick b 1 0 < j → ((i : ℕ) → degree n < i → basis t n i ≡ 0)
          → pick b (raised (basis t n) j ⊕ node n ⊗ basis t n j) (basis t n j) ≡ 0
      go true l before = rw (ne_eqb j 0 (omega arith), before j (omega arith), before (j - 1) (omega arith), ⊗-zero-r)
      go false l before = before j (omega arith)

  pub basis-product : (r x n : ℕ) → degree n < r → sum r (λ j. basis t n j ⊗ power x j) ≡ product t n x
  unfolding degree tally basis product power
  basis-product r x zero h = sum_one r 0 h (λ k l ne. rw (ne_eqb k 0 ne) (⊗-zero-l (power x k))) ∙ ⊗-one-l 1 (lit< tt)
  basis-product r x (suc n) h = go r (t n) h (basis-product r x n)
    where
      go : (r : ℕ) (b : Bool) → degree n + pick b 1 0 < r → (degree n < r → sum r (λ j. basis t n j ⊗ power x j) ≡ product t n x)
          → sum r (λ j. pick b (raised (basis t n) j ⊕ node n ⊗ basis t n j) (basis t n j) ⊗ power x j)
          ≡ pick b ((x ⊕ node n) ⊗ product t n x) (product t n x)
      go r false l before = before (omega arith)
      go zero true l before = absurd (omega arith)
      go (suc m) true l before =
          grown m (basis t n) (node n) x (basis-zero n m (omega arith)) ∙ ap (◌⊗◌ (x ⊕ node n)) (before (omega arith))

  pub product_lt : (n x : ℕ) → product t n x < 256
  unfolding product
  product_lt zero x = lit< tt
  product_lt (suc n) x = pick-lt (t n) (λ h. ⊗-lt (x ⊕ node n) (product t n x)) (product_lt n x)

  pub product-zero : (n q : ℕ) → q < n → t q ≡ true → product t n (node q) ≡ 0
  unfolding product
  product-zero zero q h o = absurd (omega arith)
  product-zero (suc n) q h o = go (ℕ_discrete n q) (product-zero n q)
    where
      still : (b : Bool) (x : ℕ) {y : ℕ} → y ≡ 0 → pick b (x ⊗ y) y ≡ 0
      still true x e = ap (◌⊗◌ x) e ∙ ⊗-zero-r x
      still false x e = e

      go : Dec (n ≡ q) → (q < n → t q ≡ true → product t n (node q) ≡ 0) → product t (suc n) (node q) ≡ 0
      go (yes e) before = rw (e, o, ⊕-self, ⊗-zero-l)
      go (no ne) before = still (t n) (node q ⊕ node n) (before (omega arith) o)

  pub product-nonzero : (n p : ℕ) → n ≤ 16 → p < 16 → ((k : ℕ) → T (t k) → ¬ (k ≡ p)) → ¬ (product t n (node p) ≡ 0)
  unfolding product
  product-nonzero zero p l h ne = omega arith
  product-nonzero (suc n) p l h ne = go (t n) (ne n) (product-nonzero n p (omega arith) h ne)
    where
      factor : ¬ (n ≡ p) → ¬ (node p ⊕ node n ≡ 0)
      factor other e =
          let s : 15 - p ≡ 15 - n = alpha-distinct (15 - p) (15 - n) (omega arith) (omega arith) (⊕-zero-same (node p) (node n) e) in
          other (omega arith)

      go : (b : Bool) → (T b → ¬ (n ≡ p)) → ¬ (product t n (node p) ≡ 0)
          → ¬ (pick b ((node p ⊕ node n) ⊗ product t n (node p)) (product t n (node p)) ≡ 0)
      go true other before e =
          before
          (no-zero-divisors (node p ⊕ node n) (product t n (node p)) (⊕-lt (node p) (node n) (alpha-lt (15 - p)) (alpha-lt (15 - n)))
          (product_lt n (node p)) e (factor (other tt)))
      go false other before e = before e

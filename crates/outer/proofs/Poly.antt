-- Sums in the field, and the value of a polynomial as a sum.
use mathlib.Core.Path.{◌≡◌, refl, sym, ap, ap₂, ◌∙◌}
use mathlib.Core.Bool.{Bool, true, false}
use Prim.Native.Nat.{ℕ, zero, suc, ◌+◌, ◌-◌, ◌<◌}
use native.Mathlib.Nat.{add-suc, add-zero, sub_self}
use native.Mathlib.Decide.{ℕ_discrete}
use native.Mathlib.Omega.{arith}
use lib.Dec.{T, lit<}
use Rattle.rules.specs.Bits.{pick}
use Rattle.rules.specs.Field.{◌⊕◌, ◌⊗◌, power}
use Rattle.rules.specs.Outer.{value}
use Rattle.outer.specs.Solve.{sum}
use Rattle.field.proofs.Laws.{⊕-comm, ⊕-assoc, ⊕-self, ⊕-zero-r, ⊕-lt, ⊗-lt, ⊗-comm, ⊗-assoc, ⊗-zero-r, ⊗-one-l, ⊗-one-r, ⊗-⊕-l}

-- ---- the order of the terms and factors

pub ⊕-left : (a b c : ℕ) → a ⊕ (b ⊕ c) ≡ b ⊕ (a ⊕ c)
⊕-left a b c = sym (⊕-assoc a b c) ∙ ap (λ (s : ℕ). s ⊕ c) (⊕-comm a b) ∙ ⊕-assoc b a c

pub ⊗-left : (a b c : ℕ) → a ⊗ (b ⊗ c) ≡ b ⊗ (a ⊗ c)
⊗-left a b c = sym (⊗-assoc a b c) ∙ ap (λ (s : ℕ). s ⊗ c) (⊗-comm a b) ∙ ⊗-assoc b a c

-- a term that comes twice goes
pub ⊕-twice : (a b : ℕ) → a ⊕ (a ⊕ b) ≡ b
⊕-twice a b = sym (⊕-assoc a a b) ∙ ap (λ (s : ℕ). s ⊕ b) (⊕-self a)

pub ruleset terms = (⊕-assoc, ⊕-comm, ⊕-left, ⊕-self, ⊕-twice, ⊕-zero-r)

pub ruleset factors = (⊗-assoc, ⊗-comm, ⊗-left)

-- where the sum of two is zero, they are the same
pub ⊕-zero-same : (a b : ℕ) → a ⊕ b ≡ 0 → a ≡ b
⊕-zero-same a b e = let s : (a ⊕ b) ⊕ b ≡ a = simp terms in sym s ∙ ap (λ (t : ℕ). t ⊕ b) e

pub pick-lt : (b : Bool) {x y n : ℕ} → (T b → x < n) → y < n → pick b x y < n
pick-lt true h l = h tt
pick-lt false h l = l

-- ---- sums

-- the terms below n make the sum
pub sum_same : (n : ℕ) {f g : ℕ → ℕ} → ((k : ℕ) → k < n → f k ≡ g k) → sum n f ≡ sum n g
unfolding sum
sum_same zero e = refl
sum_same (suc n) e = ap₂ ◌⊕◌ (sum_same n (λ k h. e k (omega arith))) (e n (omega arith))

pub sum-zero : (n : ℕ) {f : ℕ → ℕ} → ((k : ℕ) → k < n → f k ≡ 0) → sum n f ≡ 0
unfolding sum
sum-zero zero e = refl
sum-zero (suc n) e = ap₂ ◌⊕◌ (sum-zero n (λ k h. e k (omega arith))) (e n (omega arith))

pub sum-⊕ : (n : ℕ) (f g : ℕ → ℕ) → sum n (λ k. f k ⊕ g k) ≡ sum n f ⊕ sum n g
unfolding sum
sum-⊕ zero f g = refl
sum-⊕ (suc n) f g = rw (sum-⊕ n f g) (simp terms)

pub sum-⊗ : (n a : ℕ) (f : ℕ → ℕ) → sum n (λ k. a ⊗ f k) ≡ a ⊗ sum n f
unfolding sum
sum-⊗ zero a f = sym (⊗-zero-r a)
sum-⊗ (suc n) a f = rw (sum-⊗ n a f, ⊗-⊕-l)

pub sum-swap : (m n : ℕ) (f : ℕ → ℕ → ℕ) → sum m (λ i. sum n (λ j. f i j)) ≡ sum n (λ j. sum m (λ i. f i j))
unfolding sum
sum-swap zero n f = sym (sum-zero n (λ k h. refl))
sum-swap (suc m) n f = ap (λ (s : ℕ). s ⊕ sum n (f m)) (sum-swap m n f) ∙ sym (sum-⊕ n (λ j. sum m (λ i. f i j)) (f m))

-- the first term apart
pub sum_first : (n : ℕ) (f : ℕ → ℕ) → sum (suc n) f ≡ f 0 ⊕ sum n (λ k. f (suc k))
unfolding sum
sum_first zero f = ⊕-comm 0 (f 0)
sum_first (suc n) f = rw (sum_first n f) (simp terms)

-- only the term at p is there
pub sum_one : (n : ℕ) {f : ℕ → ℕ} (p : ℕ) → p < n → ((k : ℕ) → k < n → ¬ (k ≡ p) → f k ≡ 0) → sum n f ≡ f p
unfolding sum
sum_one zero p h e = absurd (omega arith)
sum_one (suc n) {f} p h e = go (ℕ_discrete n p) (λ l. sum_one n p l (λ k m. e k (omega arith)))
  where
    go : Dec (n ≡ p) → (p < n → sum n f ≡ f p) → sum n f ⊕ f n ≡ f p
    go (yes s) before = rw (sum-zero n {f = f} (λ k l. e k (omega arith) (omega arith))) (ap f s)
    go (no ne) before = rw (before (omega arith), e n (omega arith) ne, ⊕-zero-r)

-- ---- values

pub value_same : (n x : ℕ) {f g : ℕ → ℕ} → ((k : ℕ) → k < n → f k ≡ g k) → value n f x ≡ value n g x
unfolding value
value_same zero x e = refl
value_same (suc n) x e = ap₂ (λ (v t : ℕ). x ⊗ v ⊕ t) (value_same n x (λ k h. e k (omega arith))) (e n (omega arith))

pub value-⊕ : (n : ℕ) (f g : ℕ → ℕ) (x : ℕ) → value n (λ k. f k ⊕ g k) x ≡ value n f x ⊕ value n g x
unfolding value
value-⊕ zero f g x = refl
value-⊕ (suc n) f g x = rw (value-⊕ n f g x) (simp (⊗-⊕-l, terms))

pub value-⊗ : (n a : ℕ) (f : ℕ → ℕ) (x : ℕ) → value n (λ k. a ⊗ f k) x ≡ a ⊗ value n f x
unfolding value
value-⊗ zero a f x = sym (⊗-zero-r a)
value-⊗ (suc n) a f x = rw (value-⊗ n a f x) (simp (⊗-⊕-l, factors))

pub value-lt : (n : ℕ) {f : ℕ → ℕ} (x : ℕ) → ((k : ℕ) → k < n → f k < 256) → value n f x < 256
unfolding value
value-lt zero x h = lit< tt
value-lt (suc n) {f} x h = ⊕-lt (x ⊗ value n f x) (f n) (⊗-lt x (value n f x)) (h n (omega arith))

pub value-zero : (n x : ℕ) → value n (λ k. 0) x ≡ 0
unfolding value
value-zero zero x = refl
value-zero (suc n) x = rw (value-zero n x, ⊗-zero-r)

-- the first coefficient apart
pub value-first : (n : ℕ) (f : ℕ → ℕ) (x : ℕ) → f 0 < 256 → value (suc n) f x ≡ power x n ⊗ f 0 ⊕ value n (λ i. f (suc i)) x
unfolding value power
value-first zero f x h = rw (⊗-zero-r, ⊗-one-l (f 0) h, ⊕-zero-r)
value-first (suc n) f x h = rw (value-first n f x h) (simp (⊗-⊕-l, ⊗-assoc, ⊕-assoc))

-- the first m coefficients, and the n after them
pub value-split : (m n : ℕ) (f : ℕ → ℕ) (x : ℕ) → ((k : ℕ) → k < m → f k < 256)
    → value (m + n) f x ≡ power x n ⊗ value m f x ⊕ value n (λ i. f (m + i)) x
unfolding value power
value-split m zero f x h = rw (add-zero, ⊕-zero-r, ⊗-one-l (value m f x) (value-lt m x h))
value-split m (suc n) f x h = rw (add-suc, value-split m n f x h) (simp (⊗-⊕-l, ⊗-assoc, ⊕-assoc))

-- coefficient p stands at x^(n - 1 - p)
pub value-sum : (n : ℕ) {f : ℕ → ℕ} (x : ℕ) → ((p : ℕ) → p < n → f p < 256) → value n f x ≡ sum n (λ p. f p ⊗ power x (n - suc p))
unfolding value sum power
value-sum zero x h = refl
value-sum (suc n) {f} x h =
    ap₂ ◌⊕◌
    (ap (λ (v : ℕ). x ⊗ v) (value-sum n x (λ k l. h k (omega arith))) ∙ sym (sum-⊗ n x (λ p. f p ⊗ power x (n - suc p))) ∙ sum_same n step)
    (sym (⊗-one-r (f n) (h n (omega arith))) ∙ rw sub_self)
  where
    step : (k : ℕ) → k < n → x ⊗ (f k ⊗ power x (n - suc k)) ≡ f k ⊗ power x (suc n - suc k)
    step k l = let e : suc n - suc k ≡ suc (n - suc k) = omega arith in rw e (⊗-left x (f k) (power x (n - suc k)))

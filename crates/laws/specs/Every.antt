-- A computed test of each number below n: what it gives at each of them, one number more, two tests that agree, and where it fails.
use Rattle.std.specs.Prelude.{◌≡◌, refl, Bool, true, false, ◌&&◌, ℕ, zero, suc, ◌+◌, ◌<◌, T, length}
use Rattle.std.proofs.Common.{subst, sym, ap, ap₂, ◌∙◌, le_of_suc-le-suc, add-one, arith}
use Rattle.std.proofs.Math.Decide.{ℕ_discrete}
use Rattle.std.specs.Float.Ieee.Fits.{and_i, and_l, and_r}
use Rattle.rules.specs.Bits.{row, every_below, first_of}

pub every-at : (n : ℕ) (f : ℕ → Bool) → T (every_below n f) → (i : ℕ) → i < n → T (f i)
every-at zero f t i h = absurd (omega arith)
every-at (suc n) f t i h = go (ℕ_discrete i n) (every-at n f (and_l (every_below n f) (f n) t) i)
  where
    go : Dec (i ≡ n) → (i < n → T (f i)) → T (f i)
    go (yes e) below = subst (λ (k : ℕ). T (f k)) (sym e) (and_r (every_below n f) (f n) t)
    go (no ne) below = below (omega arith)

pub every_of : (n : ℕ) (f : ℕ → Bool) → ((i : ℕ) → i < n → T (f i)) → T (every_below n f)
every_of zero f h = tt
every_of (suc n) f h = and_i (every_below n f) (f n) (every_of n f (λ i lt. h i (omega arith))) (h n (omega arith))

pub every-next : (n : ℕ) (f : ℕ → Bool) → every_below (n + 1) f ≡ (every_below n f && f n)
every-next n f = rw add-one

pub every-same : (n : ℕ) (f g : ℕ → Bool) → ((i : ℕ) → i < n → f i ≡ g i) → every_below n f ≡ every_below n g
every-same zero f g same = refl
every-same (suc n) f g same = ap₂ ◌&&◌ (every-same n f g (λ i lt. same i (omega arith))) (same n (omega arith))

and-true : (b : Bool) → (b && true) ≡ false → b ≡ false
and-true true e = e
and-true false e = refl

-- where it fails at one, not all pass
pub every-fails : (n : ℕ) (f : ℕ → Bool) (i : ℕ) → i < n → f i ≡ false → every_below n f ≡ false
every-fails n f i lt e = go (every_below n f) refl
  where
    go : (b : Bool) → every_below n f ≡ b → every_below n f ≡ false
    go true q = absurd (subst T e (every-at n f (subst T (sym q) tt) i lt))
    go false q = q

-- and where not all pass, one fails
pub every-not : (n : ℕ) (f : ℕ → Bool) → every_below n f ≡ false → (i : ℕ) × (i < n) × (f i ≡ false)
every-not zero f e = absurd (subst T e tt)
every-not (suc n) f e = go (every-not n f) (f n) refl
  where
    go : (every_below n f ≡ false → (i : ℕ) × (i < n) × (f i ≡ false)) → (b : Bool) → f n ≡ b → (i : ℕ) × (i < suc n) × (f i ≡ false)
    go rest true q =
        let before = rest (and-true (every_below n f) (sym (ap (λ (b : Bool). every_below n f && b) q) ∙ e)) in
        (before.0, omega (arith, before.1), before.2)
    go rest false q = (n, omega arith, q)

-- a list that a row was worked out to: its length, and an entry
pub length-first : (n : ℕ) (f : ℕ → ℕ) → length (first_of n f) ≡ n
length-first zero f = refl
length-first (suc n) f = ap suc (length-first n (λ k. f (suc k)))

pub first-at : (n : ℕ) (f : ℕ → ℕ) (i : ℕ) → i < n → row (first_of n f) i ≡ f i
first-at zero f i h = absurd (omega arith)
first-at (suc n) f zero h = refl
first-at (suc n) f (suc i) h = first-at n (λ k. f (suc k)) i (le_of_suc-le-suc h)

-- What the count of the numbers below m that pass a test says: it tells two places that pass apart, and a one-to-one function on 0 .. N - 1 has as many
-- values below L as there are numbers below L.
use mathlib.Core.Path.{◌≡◌, refl, sym, ap, ap₂, ◌∙◌}
use mathlib.Core.Logic.{◌≢◌}
use mathlib.Core.Bool.{Bool, true, false}
use Prim.Native.Nat.{ℕ, zero, suc, ◌+◌, ◌≤◌, ◌<◌}
use native.Mathlib.Omega.{arith}
use native.Mathlib.Decide.{ℕ_discrete, dec_lt, le_ind}
use lib.Dec.{ltb}
use borrow.Author.Tests.{lt-ltb, le-ltb}
use Rattle.rules.specs.Bits.{pick}
use Rattle.rules.specs.Kept.{count}

module _ (p : ℕ → Bool) where
  pub count_yes : {m : ℕ} → p m ≡ true → count p (suc m) ≡ suc (count p m)
  unfolding count
  count_yes e = rw e (omega arith)

  pub count_no : {m : ℕ} → p m ≡ false → count p (suc m) ≡ count p m
  unfolding count
  count_no e = rw e (omega arith)

  pub count-le : {m k : ℕ} → m ≤ k → count p m ≤ count p k
  unfolding count
  count-le {m} {k} le = le_ind (λ j. count p m ≤ count p j) (omega arith) (λ j _ ih. omega arith) k le

  -- two places that pass, with as many before the one as before the other, are one place
  pub count-once : {x y : ℕ} → p x ≡ true → p y ≡ true → count p x ≡ count p y → x ≡ y
  count-once {x} {y} px py e = go (dec_lt x y) (dec_lt y x)
    where
      go : Dec (x < y) → Dec (y < x) → x ≡ y
      go (yes l) _ = absurd (omega (arith, count_yes px, count-le l))
      go (no _) (yes l) = absurd (omega (arith, count_yes py, count-le l))
      go (no a) (no b) = omega arith

count_same : (p q : ℕ → Bool) (N : ℕ) → ((m : ℕ) → m < N → p m ≡ q m) → count q N ≡ count p N
unfolding count
count_same p q zero same = refl
count_same p q (suc N) same =
    ap₂ (λ (a b : ℕ). a + b) (count_same p q N (λ m lt. same m (omega arith))) (ap (λ (b : Bool). pick {A = ℕ} b 1 0) (sym (same N (omega arith))))

-- tests that agree but at g, which only q passes
module _ (p q : ℕ → Bool) (g : ℕ) (pg : p g ≡ false) (qg : q g ≡ true) where
  count-more : (N : ℕ) → ((m : ℕ) → m < N → m ≢ g → p m ≡ q m) → g < N → count q N ≡ suc (count p N)
  unfolding count
  count-more zero same lt = absurd (omega arith)
  count-more (suc N) same lt = go (λ l. count-more N (λ m k. same m (omega arith)) l) (ℕ_discrete N g)
    where
      go : (g < N → count q N ≡ suc (count p N)) → Dec (N ≡ g) → count q N + pick (q N) 1 0 ≡ suc (count p N + pick (p N) 1 0)
      go less (yes e) = rw (e, pg, qg) (omega (arith, count_same p q g (λ m l. same m (omega arith) (omega arith))))
      go less (no ne) = rw (← same N (omega arith) ne) (omega (arith, less (omega arith)))

count_none : (p : ℕ → Bool) → ((m : ℕ) → p m ≡ false) → (N : ℕ) → count p N ≡ 0
unfolding count
count_none p never zero = refl
count_none p never (suc N) = rw (never N) (omega (arith, count_none p never N))

-- f is one to one on 0 .. N - 1, and back is its other way
module _ (f back : ℕ → ℕ) (N : ℕ) (inside : (a : ℕ) → a < N → back a < N) (there : (a : ℕ) → a < N → f (back a) ≡ a)
    (once : (k m : ℕ) → k < N → m < N → f k ≡ f m → k ≡ m) where
  pub count-below : (L : ℕ) → L ≤ N → count (λ m. ltb (f m) L) N ≡ L
  count-below zero le = count_none (λ m. ltb (f m) 0) (λ m. le-ltb (f m) 0 (omega arith)) N
  count-below (suc L) le =
      count-more (λ m. ltb (f m) L) (λ m. ltb (f m) (suc L)) (back L) (le-ltb (f (back L)) L (omega (arith, there L le)))
      (lt-ltb (f (back L)) (suc L) (omega (arith, there L le))) N same (inside L le)
      ∙ ap suc (count-below L (omega arith))
    where
      same : (m : ℕ) → m < N → m ≢ back L → ltb (f m) L ≡ ltb (f m) (suc L)
      same m lt ne = go (dec_lt (f m) L)
        where
          other : f m ≢ L
          other e = ne (once m (back L) lt (inside L le) (e ∙ sym (there L le)))

          go : Dec (f m < L) → ltb (f m) L ≡ ltb (f m) (suc L)
          go (yes l) = lt-ltb (f m) L l ∙ sym (lt-ltb (f m) (suc L) (omega arith))
          go (no l) = le-ltb (f m) L (omega arith) ∙ sym (le-ltb (f m) (suc L) (omega (arith, other)))

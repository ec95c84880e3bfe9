-- Where two rows differ: rows that stand at distinct places of other rows differ in no more places; and a place where they differ is found.
use mathlib.Core.Path.{◌≡◌, refl, sym, ap, ◌∙◌}
use mathlib.Core.Bool.{Bool, true, false}
use mathlib.Core.Logic.{◌⊎◌, inl, inr}
use Prim.Native.Nat.{ℕ, zero, suc, ◌+◌, ◌<◌, ◌≤◌}
use native.Mathlib.Decide.{ℕ_discrete}
use native.Mathlib.Omega.{arith}
use lib.Dec.{eqb}
use borrow.Author.Tests.{eq-eqb, ne_eqb}
use Rattle.rules.specs.Bits.{pick, differ}
use Rattle.outer.specs.Solve.{tally}
use Rattle.outer.proofs.Ones.{tally-but}

-- what is counted below n, where each place counts at most as much as the one that it goes to
tally-through : (n L : ℕ) (g h f : ℕ → ℕ)
    → ((i : ℕ) → i < n → f i < L)
    → ((i j : ℕ) → i < n → j < n → f i ≡ f j → i ≡ j)
    → ((i : ℕ) → i < n → g i ≤ h (f i))
    → tally g n ≤ tally h L
unfolding tally
tally-through zero L g h f below apart le = omega arith
tally-through (suc n) L g h f below apart le =
    omega (
      arith,
      tally-through n L g others f (λ i l. below i (omega arith)) (λ i j l k. apart i j (omega arith) (omega arith)) at,
      tally-but h (f n) L (below n (omega arith)),
      le n (omega arith),
    )
  where
    others : ℕ → ℕ
    others k = pick (eqb k (f n)) 0 (h k)

    at : (i : ℕ) → i < n → g i ≤ others (f i)
    at i l = rw (ne_eqb (f i) (f n) (λ e. omega (arith, apart i n (omega arith) (omega arith) e))) (le i (omega arith))

differ-tally : (n : ℕ) (x y : ℕ → ℕ) → differ n x y ≡ tally (λ k. pick (eqb (x k) (y k)) 0 1) n
unfolding differ tally
differ-tally zero x y = refl
differ-tally (suc n) x y = ap (λ (s : ℕ). s + pick (eqb (x n) (y n)) 0 1) (differ-tally n x y)

-- rows x and y that differ only where a and b do, at distinct places, differ at most as often
pub differ-through : (n L : ℕ) (x y a b f : ℕ → ℕ)
    → ((i : ℕ) → i < n → f i < L)
    → ((i j : ℕ) → i < n → j < n → f i ≡ f j → i ≡ j)
    → ((i : ℕ) → i < n → a (f i) ≡ b (f i) → x i ≡ y i)
    → differ n x y ≤ differ L a b
differ-through n L x y a b f below apart same =
    rw (differ-tally n x y, differ-tally L a b)
    (tally-through n L (λ k. pick (eqb (x k) (y k)) 0 1) (λ k. pick (eqb (a k) (b k)) 0 1) f below apart
    (λ i l. at i l (ℕ_discrete (a (f i)) (b (f i)))))
  where
    most : (t : Bool) → pick t 0 1 ≤ 1
    most true = omega arith
    most false = omega arith

    at : (i : ℕ) → i < n → Dec (a (f i) ≡ b (f i)) → pick (eqb (x i) (y i)) 0 1 ≤ pick (eqb (a (f i)) (b (f i))) 0 1
    at i l (yes e) = rw (eq-eqb (x i) (y i) (same i l e)) (omega arith)
    at i l (no ne) = rw (ne_eqb (a (f i)) (b (f i)) ne) (most (eqb (x i) (y i)))

-- two rows agree below n, or a place where they don't is found
pub find : (n : ℕ) (x y : ℕ → ℕ) → ((i : ℕ) × (i < n) × (¬ (x i ≡ y i))) ⊎ ((i : ℕ) → i < n → x i ≡ y i)
find zero x y = inr (λ i h. absurd (omega arith))
find (suc n) x y = go (ℕ_discrete (x n) (y n)) (find n x y)
  where
    go : Dec (x n ≡ y n) → ((i : ℕ) × (i < n) × (¬ (x i ≡ y i))) ⊎ ((i : ℕ) → i < n → x i ≡ y i)
        → ((i : ℕ) × (i < suc n) × (¬ (x i ≡ y i))) ⊎ ((i : ℕ) → i < suc n → x i ≡ y i)
    go (no ne) before = inl (n, omega arith, ne)
    go (yes e) (inl w) = inl (w.0, omega (arith, w.1), w.2)
    go (yes e) (inr all) = inr (λ i h. at i h (ℕ_discrete i n))
      where
        at : (i : ℕ) → i < suc n → Dec (i ≡ n) → x i ≡ y i
        at i h (yes q) = ap x q ∙ e ∙ sym (ap y q)
        at i h (no ne) = all i (omega arith)

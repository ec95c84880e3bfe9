-- Rows that hold a part of another: what stands where, and the turn of a loop that stores the next element.
use mathlib.Core.Path.{◌≡◌, sym, ap, ◌∙◌}
use mathlib.Core.Bool.{Bool, true, false}
use mathlib.Core.List.{List}
use Prim.Native.Nat.{ℕ, ◌+◌, ◌-◌, ◌<◌, ◌≤◌}
use native.Mathlib.Decide.{ℕ_discrete, dec_lt}
use native.Mathlib.Omega.{arith}
use lib.Dec.{ltb}
use lib.ListN.{length, set}
use borrow.Author.Tests.{eq-eqb, ne_eqb}
use Rattle.rules.specs.Bits.{pick, row}
use Rattle.laws.specs.Holds.{Holds, put, holds_as, holds_put}
use Rattle.laws.specs.Filled.{up_to, up_to-below, up_to-from}
use Rattle.turbo.specs.Within.{within, with_ends}

-- f with v at p: there, and elsewhere
put-here : (f : ℕ → ℕ) (p v k : ℕ) → k ≡ p → put f p v k ≡ v
put-here f p v k e = ap (λ (b : Bool). pick b v (f k)) (eq-eqb k p e)

put_other : (f : ℕ → ℕ) (p v k : ℕ) → (k ≡ p → ⊥) → put f p v k ≡ f k
put_other f p v k ne = ap (λ (b : Bool). pick b v (f k)) (ne_eqb k p ne)

module _ (a n : ℕ) (f g : ℕ → ℕ) (k : ℕ) where
  abbrev rest : ℕ → ℕ
  rest = up_to (a + n) (λ j. f (j - a)) g

  pub within-before : k < a → within a n f g k ≡ g k
  unfolding within
  within-before = up_to-below g rest a k

  pub within-after : a + n ≤ k → within a n f g k ≡ g k
  unfolding within
  within-after h = up_to-from g rest a k (omega arith) ∙ up_to-from (λ j. f (j - a)) g (a + n) k h

  pub within_in : a ≤ k → k < a + n → within a n f g k ≡ f (k - a)
  unfolding within
  within_in h l = up_to-from g rest a k h ∙ up_to-below (λ j. f (j - a)) g (a + n) k l

within_none : (a : ℕ) (f g : ℕ → ℕ) (k : ℕ) → within a 0 f g k ≡ g k
within_none a f g k = go (dec_lt k a)
  where
    go : Dec (k < a) → within a 0 f g k ≡ g k
    go (yes h) = within-before a 0 f g k h
    go (no h) = within-after a 0 f g k (omega arith)

pub within-bit : (a n : ℕ) (f g : ℕ → ℕ) (k : ℕ) → ((j : ℕ) → f j < 2) → g k < 2 → within a n f g k < 2
unfolding within
within-bit a n f g k hf hg = go (ltb k a) (ltb k (a + n))
  where
    go : (p q : Bool) → pick p (g k) (pick q (f (k - a)) (g k)) < 2
    go true q = hg
    go false true = hf (k - a)
    go false false = hg

within_same : (a n : ℕ) (f g h : ℕ → ℕ) (k : ℕ) → g k ≡ h k → within a n f g k ≡ within a n f h k
unfolding within
within_same a n f g h k e = ap (λ (y : ℕ). pick (ltb k a) y (pick (ltb k (a + n)) (f (k - a)) y)) e

-- two parts that don't overlap, in either order
pub within-swap : (a n b m : ℕ) (f h g : ℕ → ℕ) (k : ℕ) → a + n ≤ b → within a n f (within b m h g) k ≡ within b m h (within a n f g) k
within-swap a n b m f h g k apart = go (dec_lt k b)
  where
    go : Dec (k < b) → within a n f (within b m h g) k ≡ within b m h (within a n f g) k
    go (yes lt) = within_same a n f (within b m h g) g k (within-before b m h g k lt) ∙ sym (within-before b m h (within a n f g) k lt)
    go (no ge) =
        within-after a n f (within b m h g) k (omega arith)
        ∙ within_same b m h g (within a n f g) k (sym (within-after a n f g k (omega arith)))

pub ends_same : (a s : ℕ) (g h : ℕ → ℕ) (k : ℕ) → g k ≡ h k → with_ends a s g k ≡ with_ends a s h k
ends_same a s g h k e = within_same (a + 994) 3 _ _ _ k (within_same (a + 1991) 3 _ g h k e)

-- one element more, at p
put_next : (a i p v : ℕ) (f g : ℕ → ℕ) → p ≡ a + i → v ≡ f i → (k : ℕ) → put (within a i f g) p v k ≡ within a (i + 1) f g k
put_next a i p v f g here e k = go (ℕ_discrete k p) (dec_lt k a) (dec_lt k p)
  where
    go : Dec (k ≡ p) → Dec (k < a) → Dec (k < p) → put (within a i f g) p v k ≡ within a (i + 1) f g k
    go (yes q) b c =
        let back : i ≡ k - a = omega arith in
        put-here (within a i f g) p v k q ∙ e ∙ ap f back ∙ sym (within_in a (i + 1) f g k (omega arith) (omega arith))
    go (no q) (yes b) c = put_other (within a i f g) p v k q ∙ within-before a i f g k b ∙ sym (within-before a (i + 1) f g k b)
    go (no q) (no b) (yes c) =
        put_other (within a i f g) p v k q ∙ within_in a i f g k (omega arith) (omega arith)
        ∙ sym (within_in a (i + 1) f g k (omega arith) (omega arith))
    go (no q) (no b) (no c) =
        put_other (within a i f g) p v k q ∙ within-after a i f g k (omega arith) ∙ sym (within-after a (i + 1) f g k (omega arith))

-- an element past the part
put-past : (a n p v : ℕ) (f g : ℕ → ℕ) → a + n ≤ p → (k : ℕ) → put (within a n f g) p v k ≡ within a n f (put g p v) k
put-past a n p v f g past k = go (ℕ_discrete k p)
  where
    go : Dec (k ≡ p) → put (within a n f g) p v k ≡ within a n f (put g p v) k
    go (yes q) = put-here (within a n f g) p v k q ∙ sym (within-after a n f (put g p v) k (omega arith) ∙ put-here g p v k q)
    go (no q) = put_other (within a n f g) p v k q ∙ within_same a n f g (put g p v) k (sym (put_other g p v k q))

-- a turn that stores f i at a + i
stored : (a i p v : ℕ) (f g : ℕ → ℕ) {n : ℕ} {l : List ℕ}
    → p ≡ a + i
    → p < n
    → v ≡ f i
    → Holds 0 n (within a i f g) l
    → Holds 0 n (within a (i + 1) f g) (set l p v)
stored a i p v f g here lt e h = holds_as 0 (within a (i + 1) f g) (λ k k<n. put_next a i p v f g here e k) (holds_put 0 p v lt h)

-- a turn that stores f i at a + i, and h i further on, at b + i
pub both_stored : (a b i p q u v : ℕ) (f h g : ℕ → ℕ) {n : ℕ} {l : List ℕ}
    → p ≡ a + i
    → q ≡ b + i
    → p < b
    → q < n
    → u ≡ f i
    → v ≡ h i
    → Holds 0 n (within a i f (within b i h g)) l
    → Holds 0 n (within a (i + 1) f (within b (i + 1) h g)) (set (set l p u) q v)
both_stored a b i p q u v f h g at_p at-q pq lt e e' held =
    holds_as 0 (within a (i + 1) f (within b (i + 1) h g))
    (λ k k<n.
    put-past a (i + 1) q v f (within b i h g) (omega arith) k
    ∙ within_same a (i + 1) f (put (within b i h g) q v) (within b (i + 1) h g) k (put_next b i q v h g at-q e' k))
    (holds_put 0 q v lt (stored a i p u f (within b i h g) at_p (omega arith) e held))

-- before the first turn
pub unfilled : (a b : ℕ) (f h g : ℕ → ℕ) (l : List ℕ) {n : ℕ}
    → length l ≡ n
    → ((k : ℕ) → k < n → row l k ≡ g k)
    → Holds 0 n (within a 0 f (within b 0 h g)) l
unfilled a b f h g l long same =
    record { long = long; each = λ k lt. same k lt ∙ sym (within_none a f (within b 0 h g) k ∙ within_none b h g k) }

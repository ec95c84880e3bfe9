-- The generators' roots: a codeword's value is zero there, and the encoder makes codewords.
use mathlib.Core.Path.{◌≡◌, refl, sym, ap, ap₂, ◌∙◌, subst}
use mathlib.Core.Bool.{Bool, true, false, ◌&&◌, ◌||◌, not}
use Prim.Native.Nat.{ℕ, zero, suc, ◌+◌, ◌-◌, ◌≤◌, ◌<◌}
use native.Mathlib.Nat.{add-sub_cancel_left}
use native.Mathlib.Decide.{dec_lt}
use native.Mathlib.Omega.{arith}
use lib.Dec.{T, eqb, ltb, leb, lit<, lit≤, eqb→eq, ltb→lt}
use lib.Ieee.Fits.{and_l, and_r}
use borrow.Author.Count.{below_more}
use borrow.Author.Tests.{lt-ltb, le-ltb, not-true, not-false}
use Rattle.rules.specs.Bits.{pick}
use Rattle.rules.specs.Field.{◌⊕◌, ◌⊗◌, power, alpha, double, times}
use Rattle.rules.specs.Outer.{value, generator, remainder, root, is_k, Codeword, encoded}
use Rattle.field.proofs.Laws.{⊕-self, ⊕-zero-r, ⊕-lt, ⊗-lt, ⊗-assoc, ⊗-zero-r, ⊗-⊕-l, ⊗-⊕-r}
use Rattle.outer.proofs.Poly.{pick-lt, terms, factors, value_same, value-⊕, value-⊗, value-split, value-zero, value-first}

-- what the proofs need of r: each root r j makes x^r plus the rest of the generator zero
pub record Rate (r : ℕ) : Type 0 where
  pub some : 0 < r
  pub most : r ≤ 8
  pub generator_root : (j : ℕ) → j < r → value r (generator r) (root r j) ≡ power (root r j) r

-- a test passes at each number below n
abbrev all : (ℕ → Bool) → ℕ → Bool
all t zero = true
all t (suc n) = t n && all t n

all-at : (t : ℕ → Bool) (n : ℕ) → T (all t n) → (k : ℕ) → k < n → T (t k)
all-at t zero h k l = absurd (omega arith)
all-at t (suc n) h k l =
    below_more (λ (m : ℕ). T (t m)) n (all-at t n (and_r (t n) (all t n) h)) (and_l (t n) (all t n) h) k (omega arith)

is_root : ℕ → ℕ → Bool
is_root r j = eqb (value r (generator r) (root r j)) (power (root r j) r)

rate-of : (r : ℕ) → T (ltb 0 r) → T (leb r 8) → T (all (is_root r) r) → Rate r
unfolding is_root
rate-of r a b t = record { some = lit< a; most = lit≤ b; generator_root = λ j l. eqb→eq _ _ (all-at (is_root r) r t j l) }

-- what holds of 8, 12 and 14 holds of every K
pub by-k : (P : ℕ → Type 0) → P 8 → P 12 → P 14 → (k : ℕ) → T (is_k k) → P k
by-k P a b c k = go (eqb k 8) (eqb k 12) (eqb k 14) (eqb→eq k 8) (eqb→eq k 12) (eqb→eq k 14)
  where
    go : (x y z : Bool) → (T x → k ≡ 8) → (T y → k ≡ 12) → (T z → k ≡ 14) → T (x || y || z) → P k
    go true y z e f g h = subst P (sym (e tt)) a
    go false true z e f g h = subst P (sym (f tt)) b
    go false false true e f g h = subst P (sym (g tt)) c
    go false false false e f g h = absurd h

pub k-range : (k : ℕ) → T (is_k k) → (8 ≤ k) × (k ≤ 14)
k-range = by-k (λ (k : ℕ). (8 ≤ k) × (k ≤ 14)) (lit≤ tt, lit≤ tt) (lit≤ tt, lit≤ tt) (lit≤ tt, lit≤ tt)

-- what a branch on `!b` says
pub passed : {b x : Bool} → b ≡ x → not b ≡ false → T x
passed {b} e t = subst T (sym (not-false b t) ∙ e) tt

pub refused : {b x : Bool} → b ≡ x → not b ≡ true → ¬ T x
refused {b} e t = subst T (sym e ∙ not-true b t)

pub rate : (k : ℕ) → T (is_k k) → Rate (16 - k)
unfolding is_root value generator power alpha double ◌⊗◌ times
rate = by-k (λ (k : ℕ). Rate (16 - k)) (rate-of 8 tt tt tt) (rate-of 4 tt tt tt) (rate-of 2 tt tt tt)

-- ---- the remainder

pub remainder-lt : (r : ℕ) (d : ℕ → ℕ) (n i : ℕ) → remainder r d n i < 256
unfolding remainder
remainder-lt r d zero i = lit< tt
remainder-lt r d (suc n) i =
    ⊕-lt _ _ (pick-lt (ltb (suc i) r) (λ t. remainder-lt r d n (suc i)) (lit< tt)) (⊗-lt (d n ⊕ remainder r d n 0) (generator r i))

-- it depends on the bytes below n
pub remainder-same : (r : ℕ) {d e : ℕ → ℕ} (n : ℕ) → ((k : ℕ) → k < n → d k ≡ e k) → (i : ℕ) → remainder r d n i ≡ remainder r e n i
unfolding remainder
remainder-same r zero h i = refl
remainder-same r (suc n) h i =
    let before = remainder-same r n (λ k l. h k (omega arith)) in rw (before (suc i), before 0, h n (omega arith))

around : (x p a w : ℕ) → x ⊗ (p ⊗ a ⊕ w) ⊕ x ⊗ p ⊗ a ≡ x ⊗ w
around x p a w = simp (⊗-⊕-l, ⊗-assoc, terms)

-- x times f, without what comes to stand at x^r
value-shift : (r : ℕ) → 0 < r → (f : ℕ → ℕ) → f 0 < 256 → (x : ℕ)
    → value r (λ i. pick (ltb (suc i) r) (f (suc i)) 0) x ≡ x ⊗ value r f x ⊕ power x r ⊗ f 0
unfolding value power
value-shift zero h f b x = absurd (omega arith)
value-shift (suc s) h f b x =
    let w : ℕ = value s (λ i. f (suc i)) x in
    ap₂ (λ (v t : ℕ). x ⊗ v ⊕ t) (value_same s x (λ k l. rw (lt-ltb (suc k) (suc s) (omega arith)))) (rw (le-ltb (suc s) (suc s) (omega arith)))
    ∙ ⊕-zero-r (x ⊗ w) ∙ sym (ap (λ (v : ℕ). x ⊗ v ⊕ power x (suc s) ⊗ f 0) (value-first s f x b) ∙ around x (power x s) (f 0) w)

division : (x p v a d : ℕ) → (x ⊗ (p ⊗ v) ⊕ p ⊗ a) ⊕ (d ⊕ a) ⊗ p ≡ p ⊗ (x ⊗ v ⊕ d)
division x p v a d = simp (⊗-⊕-l, ⊗-⊕-r, factors, terms)

module _ {r : ℕ} (rate : Rate r) (j : ℕ) (l : j < r) where
  abbrev x : ℕ
  x = root r j

  pub remainder-value : (d : ℕ → ℕ) (n : ℕ) → value r (remainder r d n) (root r j) ≡ power (root r j) r ⊗ value n d (root r j)
  unfolding remainder value
  remainder-value d zero = value-zero r x ∙ sym (⊗-zero-r (power x r))
  remainder-value d (suc n) =
      let q : ℕ = d n ⊕ remainder r d n 0 in
      value-⊕ r (λ i. pick (ltb (suc i) r) (remainder r d n (suc i)) 0) (λ i. q ⊗ generator r i) x
      ∙ ap₂ ◌⊕◌
      (value-shift r rate.some (remainder r d n) (remainder-lt r d n 0) x
      ∙ ap (λ (v : ℕ). x ⊗ v ⊕ power x r ⊗ remainder r d n 0) (remainder-value d n))
      (value-⊗ r q (generator r) x ∙ ap (◌⊗◌ q) (rate.generator_root j l))
      ∙ division x (power x r) (value n d x) (remainder r d n 0) (d n)

  pub codeword-root : {c : ℕ → ℕ} → Codeword r c → value 16 c (root r j) ≡ 0
  codeword-root {c} w =
      let e : 16 ≡ 16 - r + r = omega (arith, rate.most) in
      ap (λ (n : ℕ). value n c x) e ∙ value-split (16 - r) r c x (λ k m. w.bytes k (omega arith))
      ∙ ap (λ (v : ℕ). power x r ⊗ value (16 - r) c x ⊕ v) (value_same r x w.parity ∙ remainder-value c (16 - r))
      ∙ ⊕-self (power x r ⊗ value (16 - r) c x)

-- bytes whose values at the roots are zero
pub record Zeros (r : ℕ) (w : ℕ → ℕ) : Type 0 where
  pub bytes : (p : ℕ) → p < 16 → w p < 256
  pub zeros : (j : ℕ) → j < r → value 16 w (root r j) ≡ 0

pub codeword-zeros : {r : ℕ} {w : ℕ → ℕ} → Rate r → Codeword r w → Zeros r w
codeword-zeros rate w = record { bytes = w.bytes; zeros = λ j l. codeword-root rate j l w }

-- ---- the encoder

pub encoded-data : (r : ℕ) (d : ℕ → ℕ) (p : ℕ) → p < 16 - r → encoded r d p ≡ d p
unfolding encoded
encoded-data r d p h = rw (lt-ltb p (16 - r) h)

-- a codeword goes by its first 16 - r bytes
pub encoded-same : (r : ℕ) {d e : ℕ → ℕ} → ((p : ℕ) → p < 16 - r → d p ≡ e p) → (p : ℕ) → encoded r d p ≡ encoded r e p
unfolding encoded
encoded-same r {d} {e} same p = go (dec_lt p (16 - r))
  where
    go : Dec (p < 16 - r) → encoded r d p ≡ encoded r e p
    go (yes lt) = encoded-data r d p lt ∙ same p lt ∙ sym (encoded-data r e p lt)
    go (no ge) = rw (le-ltb p (16 - r) (omega arith)) (remainder-same r (16 - r) same (p - (16 - r)))

pub encoded-parity : (r : ℕ) (d : ℕ → ℕ) (i : ℕ) → encoded r d (16 - r + i) ≡ remainder r d (16 - r) i
unfolding encoded
encoded-parity r d i = rw (le-ltb (16 - r + i) (16 - r) (omega arith), add-sub_cancel_left)

pub encoded-codeword : (r : ℕ) (d : ℕ → ℕ) → ((p : ℕ) → p < 16 - r → d p < 256) → Codeword r (encoded r d)
unfolding encoded
encoded-codeword r d h =
    record {
      bytes = λ p l. pick-lt (ltb p (16 - r)) (λ t. h p (ltb→lt p (16 - r) t)) (remainder-lt r d (16 - r) (p - (16 - r)));
      parity = λ i l. encoded-parity r d i ∙ sym (remainder-same r (16 - r) (encoded-data r d) i);
    }

-- the 16 bytes make the codeword
pub codeword-same : {r : ℕ} {v w : ℕ → ℕ} → r ≤ 8 → ((p : ℕ) → p < 16 → v p ≡ w p) → Codeword r w → Codeword r v
codeword-same {r} {v} {w} most e c =
    record {
      bytes = λ p l. subst (λ (b : ℕ). b < 256) (sym (e p l)) (c.bytes p l);
      parity = λ i l. e (16 - r + i) (omega arith) ∙ c.parity i l ∙ sym (remainder-same r (16 - r) (λ k m. e k (omega arith)) i);
    }

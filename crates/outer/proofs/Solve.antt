-- What is worked out for lost packets is right: at most one codeword agrees with what is kept, and `solved` finds it.
use mathlib.Core.Path.{◌≡◌, refl, sym, ap, ◌∙◌}
use mathlib.Core.Bool.{Bool, true, false, ◌&&◌, not}
use Prim.Native.Nat.{ℕ, zero, suc, ◌+◌, ◌-◌, ◌*◌, ◌/◌, ◌^◌, ◌≤◌, ◌<◌}
use native.Mathlib.Nat.{mul_comm, suc-sub-suc, le_of_eq}
use native.Mathlib.Decide.{dec_lt}
use native.Mathlib.Omega.{arith}
use lib.Count.{ones}
use lib.Dec.{eqb, lit<}
use borrow.Author.Tests.{eqb-true, eqb-false, eq-eqb, ne_eqb}
use Rattle.rules.specs.Bits.{pick}
use Rattle.rules.specs.Field.{◌⊕◌, ◌⊗◌, power, alpha, inverse}
use Rattle.rules.specs.Outer.{value, root, marked, Agree, Codeword, encoded, remainder}
use Rattle.outer.specs.Solve.{sum, node, weight, lost_at, other, basis, product, denominator, entry, syndrome, kept, solved}
use Rattle.field.proofs.Laws.{⊕-zero-r, ⊗-lt, ⊗-zero-l, ⊗-zero-r, ⊗-one-r}
use Rattle.field.proofs.Laws.{power-add, power-lt, alpha-mul, alpha-nonzero, no-zero-divisors, inverse-law}
use Rattle.outer.proofs.Lagrange.{degree, basis-product, product_lt, product-zero, product-nonzero}
use Rattle.outer.proofs.Ones.{tally-same, tally-but, ones-count, tail, tail-marked, tail-ones, tail-fits}
use Rattle.outer.proofs.Poly.{factors, pick-lt, ⊕-zero-same, sum_same, sum-⊗, sum-swap, sum_one, value_same, value-⊕, value-sum}
use Rattle.outer.proofs.Roots.{Rate, Zeros, codeword-zeros, encoded-data, encoded-parity, encoded-codeword, codeword-same}

-- ---- marks

kept-zero : (lost p : ℕ) → lost_at lost p ≡ false → marked lost p ≡ 0
kept-zero lost p e = let ne : ¬ (marked lost p ≡ 1) = eqb-false (marked lost p) 1 e in omega arith

mark : (b : Bool) (m : ℕ) → m < 2 → pick (not b && eqb m 1) 1 0 ≡ pick b 0 m
mark true m h = refl
mark false zero h = refl
mark false (suc zero) h = refl
mark false (suc (suc m)) h = absurd (omega arith)

-- the lost packets but one
degree-other : (lost p : ℕ) → lost < 2 ^ 16 → p < 16 → lost_at lost p ≡ true → degree (other lost p) 16 + 1 ≡ ones lost
unfolding degree
degree-other lost p h l e =
    omega (
      arith,
      tally-same 16 {f = λ k. pick (other lost p k) 1 0} (λ k m. mark (eqb k p) (marked lost k) (omega arith)),
      tally-but (marked lost) p 16 l,
      ones-count 16 lost h,
      eqb-true (marked lost p) 1 e,
    )

-- ---- the system

-- what packet p counts for in the value at root j
node-power : (r j p : ℕ) → power (root r j) (15 - p) ≡ weight r p ⊗ power (node p) j
node-power r j p =
    alpha-mul (128 - r / 2 + j) (15 - p) ∙ ap alpha (mul_comm (128 - r / 2 + j) (15 - p)) ∙ sym (alpha-mul (15 - p) (128 - r / 2 + j))
    ∙ power-add (node p) (128 - r / 2) j

denominator-inverse : (r lost p : ℕ) → p < 16 → denominator r lost p ⊗ inverse (denominator r lost p) ≡ 1
unfolding denominator
denominator-inverse r lost p h = inverse-law (denominator r lost p) (⊗-lt (product (other lost p) 16 (node p)) (weight r p)) nonzero
  where
    nonzero : ¬ (denominator r lost p ≡ 0)
    nonzero e =
        alpha-nonzero ((15 - p) * (128 - r / 2))
        (sym (alpha-mul (15 - p) (128 - r / 2))
        ∙ no-zero-divisors (product (other lost p) 16 (node p)) (weight r p)
        (product_lt (other lost p) 16 (node p)) (power-lt (node p) (128 - r / 2)) e
        (product-nonzero (other lost p) 16 p (omega arith) h (λ k t s. rw (eq-eqb k p s) at t)))

regroup : (b d g a x : ℕ) → (b ⊗ d) ⊗ (g ⊗ (a ⊗ x)) ≡ (d ⊗ (g ⊗ a)) ⊗ (b ⊗ x)
regroup b d g a x = simp factors

divided : (d g a m : ℕ) → (d ⊗ (g ⊗ a)) ⊗ m ≡ g ⊗ ((m ⊗ a) ⊗ d)
divided d g a m = simp factors

module _ {r lost : ℕ} {w c : ℕ → ℕ} (fits : lost < 2 ^ 16) (few : ones lost ≤ r) (good : Zeros r w) (agree : Agree lost w c) where
  gone : ℕ → ℕ
  gone q = pick (lost_at lost q) (w q) 0

  gone-lt : (q : ℕ) → q < 16 → gone q < 256
  unfolding gone
  gone-lt q l = pick-lt (lost_at lost q) (λ t. good.bytes q l) (lit< tt)

  -- the kept bytes miss what is gone
  syndrome-gone : (j : ℕ) → j < r → syndrome r (kept lost c) j ≡ sum 16 (λ q. gone q ⊗ (weight r q ⊗ power (node q) j))
  unfolding gone
  syndrome-gone j l =
      ⊕-zero-same (value 16 (kept lost c) x) (value 16 gone x) (sym (value_same 16 x whole ∙ value-⊕ 16 (kept lost c) gone x) ∙ good.zeros j l)
      ∙ value-sum 16 x gone-lt
      ∙ sum_same 16 (λ q m. ap (◌⊗◌ (gone q)) (ap (power x) (suc-sub-suc 15 q) ∙ node-power r j q))
    where
      x : ℕ
      x = root r j

      whole : (q : ℕ) → q < 16 → w q ≡ kept lost c q ⊕ gone q
      whole q m = go (lost_at lost q) refl
        where
          go : (b : Bool) → lost_at lost q ≡ b → w q ≡ pick b 0 (c q) ⊕ pick b (w q) 0
          go true e = refl
          go false e = agree q m (kept-zero lost q e) ∙ sym (⊕-zero-r (c q))

  module _ (p : ℕ) (l : p < 16) (e : lost_at lost p ≡ true) where
    share : ℕ → ℕ
    share q = inverse (denominator r lost p) ⊗ (gone q ⊗ weight r q)

    -- packet q's part in the sum over the syndromes
    part : (q : ℕ) → sum r (λ j. entry r lost p j ⊗ (gone q ⊗ (weight r q ⊗ power (node q) j))) ≡ share q ⊗ product (other lost p) 16 (node q)
    unfolding share entry
    part q =
        sum_same r (λ j k. regroup (basis (other lost p) 16 j) (inverse (denominator r lost p)) (gone q) (weight r q) (power (node q) j))
        ∙ sum-⊗ r (share q) (λ j. basis (other lost p) 16 j ⊗ power (node q) j)
        ∙ ap (◌⊗◌ (share q)) (basis-product (other lost p) r (node q) 16 (omega (arith, degree-other lost p fits l e)))

    -- only packet p has one
    none : (q : ℕ) → q < 16 → ¬ (q ≡ p) → share q ⊗ product (other lost p) 16 (node q) ≡ 0
    unfolding share gone
    none q m ne = go (lost_at lost q) refl
      where
        go : (b : Bool) → lost_at lost q ≡ b
            → (inverse (denominator r lost p) ⊗ (pick b (w q) 0 ⊗ weight r q)) ⊗ product (other lost p) 16 (node q) ≡ 0
        go true s = rw (product-zero (other lost p) 16 q m (rw (ne_eqb q p ne) s), ⊗-zero-r)
        go false s = rw (⊗-zero-l, ⊗-zero-r, ⊗-zero-l)

    solved-lost : sum r (λ j. entry r lost p j ⊗ syndrome r (kept lost c) j) ≡ w p
    unfolding share gone denominator
    solved-lost =
        let v : ℕ → ℕ → ℕ = (λ j q. gone q ⊗ (weight r q ⊗ power (node q) j)) in
        sum_same r (λ j k. ap (◌⊗◌ (entry r lost p j)) (syndrome-gone j k) ∙ sym (sum-⊗ 16 (entry r lost p j) (v j)))
        ∙ sum-swap r 16 (λ j q. entry r lost p j ⊗ v j q)
        ∙ sum_same 16 (λ q m. part q)
        ∙ sum_one 16 p l none
        ∙ divided (inverse (denominator r lost p)) (gone p) (weight r p) (product (other lost p) 16 (node p))
        ∙ ap (◌⊗◌ (gone p)) (denominator-inverse r lost p l) ∙ ⊗-one-r (gone p) (gone-lt p l) ∙ ap (λ (b : Bool). pick b (w p) 0) e

  pub solved-is : (p : ℕ) → p < 16 → solved r lost c p ≡ w p
  unfolding solved
  solved-is p l = go (lost_at lost p) refl
    where
      go : (b : Bool) → lost_at lost p ≡ b → pick b (sum r (λ j. entry r lost p j ⊗ syndrome r (kept lost c) j)) (c p) ≡ w p
      go true e = solved-lost p l e
      go false e = sym (agree p l (kept-zero lost p e))

-- ---- codewords

pub solved-agrees : (r lost : ℕ) (c : ℕ → ℕ) → Agree lost (solved r lost c) c
unfolding solved
solved-agrees r lost c p l e = rw (ne_eqb (marked lost p) 1 (omega arith))

module _ {r lost : ℕ} (fits : lost < 2 ^ 16) (few : ones lost ≤ r) where
  zeros-unique : {v w c : ℕ → ℕ} → Zeros r v → Zeros r w → Agree lost v c → Agree lost w c → (p : ℕ) → p < 16 → v p ≡ w p
  zeros-unique v w a b p l = sym (solved-is fits few v a p l) ∙ solved-is fits few w b p l

  module _ (rate : Rate r) where
    -- at most one codeword agrees with what is kept
    pub unique : {v w c : ℕ → ℕ} → Codeword r v → Codeword r w → Agree lost v c → Agree lost w c → (p : ℕ) → p < 16 → v p ≡ w p
    unique v w = zeros-unique (codeword-zeros rate v) (codeword-zeros rate w)

    -- and where what is worked out is none, none does
    pub none-agrees : {c : ℕ → ℕ} → ¬ Codeword r (solved r lost c) → (w : ℕ → ℕ) → Codeword r w → Agree lost w c → ⊥
    none-agrees bad w good agree = bad (codeword-same rate.most (solved-is fits few (codeword-zeros rate good) agree) good)

-- bytes whose values at the roots are zero are a codeword: the encoder makes one that starts with the same data
pub root-codeword : {r : ℕ} {c : ℕ → ℕ} → Rate r → Zeros r c → Codeword r c
root-codeword {r} {c} rate good = record { bytes = good.bytes; parity = parity }
  where
    agree : Agree (tail r) (encoded r c) c
    agree p l e = go (dec_lt p (16 - r))
      where
        go : Dec (p < 16 - r) → encoded r c p ≡ c p
        go (yes h) = encoded-data r c p h
        go (no h) =
            let s : 16 - r + (p - (16 - r)) ≡ p = omega arith in
            absurd (omega (arith, rw s at (tail-marked r (p - (16 - r)) (omega (arith, rate.most)))))

    made : Zeros r (encoded r c)
    made = codeword-zeros rate (encoded-codeword r c (λ p m. good.bytes p (omega arith)))

    parity : (i : ℕ) → i < r → c (16 - r + i) ≡ remainder r c (16 - r) i
    parity i l =
        zeros-unique (tail-fits r (omega (arith, rate.most))) (le_of_eq (tail-ones r)) good made (λ p m e. refl) agree
        (16 - r + i) (omega (arith, rate.most))
        ∙ encoded-parity r c i

-- A list that is filled from the front: what a loop that stores one element a turn has reached.
use Rattle.std.specs.Prelude.{◌≡◌, Bool, List, ℕ, ◌+◌, ◌<◌, ◌≤◌, T, eqb, ltb, length, set, replicate}
use Rattle.std.proofs.Common.{sym, ◌∙◌, ap, arith, eqb→eq, lit<, lt-ltb, le-ltb, eq-eqb, ne_eqb}
use Rattle.std.proofs.Math.Decide.{ℕ_discrete, dec_lt}
use Rattle.std.proofs.lemmas.List.{length-replicate, get_or-replicate}
use Rattle.std.proofs.Math.ListN.{get_or-eq_default}
use Rattle.rules.specs.Bits.{pick, row, every_below}
use Rattle.laws.specs.Every.{every-at}
use Rattle.laws.specs.Holds.{Holds, put, holds_as, holds_put}
use Rattle.laws.specs.Rows.{Bits}

-- a choice by an order that is known
pub pick-lt : {A : Type 0} (a b : ℕ) (u v : A) → a < b → pick (ltb a b) u v ≡ u
pick-lt a b u v h = ap (λ (t : Bool). pick t u v) (lt-ltb a b h)

pub pick-ge : {A : Type 0} (a b : ℕ) (u v : A) → b ≤ a → pick (ltb a b) u v ≡ v
pick-ge a b u v h = ap (λ (t : Bool). pick t u v) (le-ltb a b h)

-- f below i, then g
abbrev pub up_to : {A : Type 0} → ℕ → (ℕ → A) → (ℕ → A) → ℕ → A
up_to i f g k = pick (ltb k i) (f k) (g k)

module _ {A : Type 0} (f g : ℕ → A) where
  pub up_to-below : (i k : ℕ) → k < i → up_to i f g k ≡ f k
  up_to-below i k = pick-lt k i (f k) (g k)

  pub up_to-from : (i k : ℕ) → i ≤ k → up_to i f g k ≡ g k
  up_to-from i k = pick-ge k i (f k) (g k)

  -- before the first turn
  pub holds-first : (d : A) {n : ℕ} {l : List A} → Holds d n g l → Holds d n (up_to 0 f g) l
  holds-first d = holds_as d (up_to 0 f g) (λ k lt. sym (up_to-from 0 k (omega arith)))

  -- a turn that stores f i at i
  pub holds-next : (d : A) {n : ℕ} {l : List A} (i : ℕ) (v : A) → i < n → v ≡ f i → Holds d n (up_to i f g) l
      → Holds d n (up_to (i + 1) f g) (set l i v)
  holds-next d {n} i v lt e h = holds_as d (up_to (i + 1) f g) (λ k k<n. at k (ℕ_discrete k i) (dec_lt k i)) (holds_put d i v lt h)
    where
      at : (k : ℕ) → Dec (k ≡ i) → Dec (k < i) → put (up_to i f g) i v k ≡ up_to (i + 1) f g k
      at k (yes q) less =
          ap (λ (b : Bool). pick b v (up_to i f g k)) (eq-eqb k i q) ∙ e ∙ ap f (sym q) ∙ sym (up_to-below (i + 1) k (omega arith))
      at k (no q) (yes less) =
          ap (λ (b : Bool). pick b v (up_to i f g k)) (ne_eqb k i q) ∙ up_to-below i k less ∙ sym (up_to-below (i + 1) k (omega arith))
      at k (no q) (no more) =
          ap (λ (b : Bool). pick b v (up_to i f g k)) (ne_eqb k i q) ∙ up_to-from i k (omega arith) ∙ sym (up_to-from (i + 1) k (omega arith))

  -- a turn that stores nothing, since it stands there
  pub holds-skip : (d : A) {n : ℕ} {l : List A} (i : ℕ) → g i ≡ f i → Holds d n (up_to i f g) l → Holds d n (up_to (i + 1) f g) l
  holds-skip d i e = holds_as d (up_to (i + 1) f g) (λ k k<n. at k (ℕ_discrete k i) (dec_lt k i))
    where
      at : (k : ℕ) → Dec (k ≡ i) → Dec (k < i) → up_to i f g k ≡ up_to (i + 1) f g k
      at k (yes q) less = up_to-from i k (omega arith) ∙ ap g q ∙ e ∙ ap f (sym q) ∙ sym (up_to-below (i + 1) k (omega arith))
      at k (no q) (yes less) = up_to-below i k less ∙ sym (up_to-below (i + 1) k (omega arith))
      at k (no q) (no more) = up_to-from i k (omega arith) ∙ sym (up_to-from (i + 1) k (omega arith))

  -- where the last turn is done
  pub holds-whole : (d : A) {n : ℕ} {l : List A} (i : ℕ) → i ≡ n → Holds d n (up_to i f g) l → Holds d n f l
  holds-whole d i e = holds_as d f (λ k lt. up_to-below i k (omega arith))

-- a new array
pub holds-new : (n : ℕ) (f : ℕ → ℕ) → Holds 0 n (up_to 0 f (λ k. 0)) (replicate n 0)
holds-new n f = holds-first f (λ k. 0) 0 (record { long = length-replicate n 0; each = λ k lt. get_or-replicate n k 0 0 lt })

-- an array that is written out
pub holds-computed : (n : ℕ) (f : ℕ → ℕ) (l : List ℕ) → length l ≡ n → T (every_below n (λ i. eqb (row l i) (f i))) → Holds 0 n f l
holds-computed n f l long t = record { long = long; each = λ i lt. eqb→eq _ _ (every-at n (λ i. eqb (row l i) (f i)) t i lt) }

-- a list that holds bits is one of bits
pub holds-bits : (n : ℕ) (f : ℕ → ℕ) (l : List ℕ) → ((k : ℕ) → k < n → f k < 2) → Holds 0 n f l → Bits l
holds-bits n f l b h i = go (dec_lt i n)
  where
    go : Dec (i < n) → row l i < 2
    go (yes lt) = rw (h.each i lt) (b i lt)
    go (no ge) = rw (get_or-eq_default l 0 {n = i} (omega (arith, h.long))) (lit< tt)

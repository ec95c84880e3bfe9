-- Receipts that were added one after the other: their totals are those of the sequence, in whatever order they came.
use mathlib.Core.Path.{◌≡◌, refl, sym, ap, subst, ◌∙◌}
use mathlib.Core.Bool.{Bool, true, false}
use mathlib.Core.List.{List, [], ◌∷◌}
use Prim.Native.Nat.{ℕ, ◌+◌, ◌<◌, ◌^◌}
use native.Mathlib.Omega.{arith}
use lib.Dec.{T, ltb, lit<}
use lib.Ieee.Bits.{is_true}
use lib.ListN.{length}
use borrow.Author.Tests.{lt-ltb}
use Rattle.rules.specs.Bits.{pick, row}
use Rattle.rules.specs.Totals.{is_block, counts, how_often, totals_of, agrees, plus, fits, adding_number, AddRule, Summed, Reordered}
use Rattle.rules.specs.Totals.Summed.{start, taken, refused}
use Rattle.rules.specs.Totals.Reordered.{none, first, exchanged, again}
use Rattle.rules.specs.declared.Receipt.{Receipt}
use Rattle.laws.specs.Every.{every_of, length-first, first-at}
use Rattle.laws.specs.Holds.{Holds, holds_one}
use Rattle.adding.proofs.Counting.{once_is, counts-none, plus-at, plus-holds, fits-at}
use Rattle.adding.proofs.Numbers.{number-no-block, number-taken, taken-block}

-- ---- the totals of a sequence

pub totals-long : (rs : List Receipt) → length (totals_of rs) ≡ 128
totals-long rs = length-first 128 (λ i. how_often (counts i) rs)

pub totals-at : (rs : List Receipt) (i : ℕ) → i < 128 → row (totals_of rs) i ≡ how_often (counts i) rs
totals-at rs = first-at 128 (λ i. how_often (counts i) rs)

totals-hold : (rs : List Receipt) → Holds 0 128 (λ i. how_often (counts i) rs) (totals_of rs)
totals-hold rs = record { long = totals-long rs; each = totals-at rs }

-- with a receipt more
totals-more : (rs : List Receipt) (a : Receipt) → totals_of (a ∷ rs) ≡ plus (totals_of rs) a
totals-more rs a =
    plus-holds (totals_of rs) (totals_of (a ∷ rs)) a 128 (totals-long rs)
    (record { long = totals-long (a ∷ rs); each = λ i lt. omega (arith, totals-at (a ∷ rs) i lt, totals-at rs i lt) })

-- ---- what was added from the start, and what can be

-- each block has a mask and reasons that agree
abbrev pub Agreeing : List Receipt → Type 0
Agreeing [] = Unit {0}
Agreeing (a ∷ rs) = (T (is_block a) → T (agrees a)) × Agreeing rs

-- none of the totals passes 2^64 - 1
abbrev Small : List Receipt → Type 0
Small rs = (i : ℕ) → i < 128 → how_often (counts i) rs < 2 ^ 64

fits-of : (t : List ℕ) → ((i : ℕ) → i < 128 → row t i < 2 ^ 64) → T (fits t)
unfolding fits
fits-of t small = every_of 128 (λ i. ltb (row t i) (2 ^ 64)) (λ i lt. subst T (sym (lt-ltb (row t i) (2 ^ 64) (small i lt))) tt)

-- a receipt that was taken
small-more : (rs : List Receipt) (a : Receipt) → adding_number (totals_of rs) a ≡ 0 → Small rs → Small (a ∷ rs)
small-more rs a e small i lt = go (is_block a) refl
  where
    go : (b : Bool) → is_block a ≡ b → how_often (counts i) (a ∷ rs) < 2 ^ 64
    go true q =
        let room = (taken-block (totals_of rs) a (subst T (sym q) tt) e).2 in
        omega (arith, fits-at (plus (totals_of rs) a) room i lt, plus-at (totals_of rs) a i (omega (arith, totals-long rs)), totals-at rs i lt)
    go false q = omega (arith, small i lt, once_is i a false (counts-none i a q))

pub record Added (rs : List Receipt) (t : List ℕ) : Type 0 where
  pub totals : t ≡ totals_of rs
  pub agreeing : Agreeing rs
  pub small : Small rs

pub summed : (rs : List Receipt) (t : List ℕ) → Summed AddRule rs t → Added rs t
summed rs t start = record { totals = refl; agreeing = tt; small = λ i lt. lit< tt }
summed rs t (taken rs' a before after s r) =
    let h = summed rs' before s in
    let zero : adding_number (totals_of rs') a ≡ 0 = ap (λ (l : List ℕ). adding_number l a) (sym h.totals) ∙ sym r.number in
    record {
      totals = r.added refl ∙ ap (λ (l : List ℕ). plus l a) h.totals ∙ sym (totals-more rs' a);
      agreeing = (λ block. (taken-block (totals_of rs') a block zero).1, h.agreeing);
      small = small-more rs' a zero h.small;
    }
summed rs t (refused rs' a before after n s ne r) =
    let h = summed rs' before s in
    record { totals = r.kept ne ∙ h.totals; agreeing = h.agreeing; small = h.small }

taken-zero : (rs : List Receipt) (a : Receipt) → (T (is_block a) → T (agrees a)) → Small (a ∷ rs) → adding_number (totals_of rs) a ≡ 0
taken-zero rs a good small = go (is_block a) refl
  where
    go : (b : Bool) → is_block a ≡ b → adding_number (totals_of rs) a ≡ 0
    go true q =
        number-taken (totals_of rs) a q (totals-long rs) (is_true (agrees a) (good (subst T (sym q) tt)))
        (is_true (fits (plus (totals_of rs) a))
        (fits-of (plus (totals_of rs) a) (λ i lt. subst (λ (l : List ℕ). row l i < 2 ^ 64) (totals-more rs a) (subst (λ (n : ℕ). n < 2 ^ 64) (sym (totals-at (a ∷ rs) i lt)) (small i lt)))))
    go false q = number-no-block (totals_of rs) a q

can-be : (rs : List Receipt) → Agreeing rs → Small rs → Summed AddRule rs (totals_of rs)
can-be [] good small = start
can-be (a ∷ rs) good small =
    taken rs a (totals_of rs) (totals_of (a ∷ rs)) (can-be rs good.1 (λ i lt. omega (arith, small i lt)))
    (record { number = sym (taken-zero rs a good.0 small); added = λ z. totals-more rs a; kept = λ ne. absurd (ne refl) })

-- ---- in another order

often-reordered : (rs ss : List Receipt) (f : Receipt → Bool) → Reordered rs ss → how_often f rs ≡ how_often f ss
often-reordered rs ss f none = refl
often-reordered rs ss f (first a rs' ss' r) = ap (λ (n : ℕ). pick (f a) 1 0 + n) (often-reordered rs' ss' f r)
often-reordered rs ss f (exchanged a b rs') = omega arith
often-reordered rs ss f (again rs' ts us r q) = often-reordered rs' ts f r ∙ often-reordered ts us f q

agreeing-reordered : (rs ss : List Receipt) → Reordered rs ss → Agreeing rs → Agreeing ss
agreeing-reordered rs ss none g = g
agreeing-reordered rs ss (first a rs' ss' r) g = (g.0, agreeing-reordered rs' ss' r g.1)
agreeing-reordered rs ss (exchanged a b rs') g = (g.1.0, (g.0, g.1.1))
agreeing-reordered rs ss (again rs' ts us r q) g = agreeing-reordered ts us q (agreeing-reordered rs' ts r g)

totals-reordered : (rs ss : List Receipt) → Reordered rs ss → totals_of rs ≡ totals_of ss
totals-reordered rs ss r =
    holds_one 0 (totals-hold rs)
    (record { long = totals-long ss; each = λ i lt. totals-at ss i lt ∙ sym (often-reordered rs ss (counts i) r) })

pub any_order : (rs ss : List Receipt) (t : List ℕ) → Reordered rs ss → Summed AddRule rs t → Summed AddRule ss t
any_order rs ss t r s =
    let h = summed rs t s in
    subst (Summed AddRule ss) (sym (h.totals ∙ totals-reordered rs ss r))
    (can-be ss (agreeing-reordered rs ss r h.agreeing) (λ i lt. subst (λ (n : ℕ). n < 2 ^ 64) (often-reordered rs ss (counts i) r) (h.small i lt)))

pub one_total : (rs ss : List Receipt) (t u : List ℕ) → Reordered rs ss → Summed AddRule rs t → Summed AddRule ss u → t ≡ u
one_total rs ss t u r s s' = (summed rs t s).totals ∙ totals-reordered rs ss r ∙ sym (summed ss u s').totals

-- The eight totals of a position, each by what it counts; the first three together, and the last five.
use mathlib.Core.Path.{◌≡◌, refl, sym, ap, ap₂, subst, ◌∙◌}
use mathlib.Core.Bool.{Bool, true, false, not, ◌||◌, ◌&&◌}
use mathlib.Core.List.{List, [], ◌∷◌}
use Prim.Native.Nat.{ℕ, zero, suc, ◌+◌, ◌-◌, ◌*◌, ◌/◌, ◌<◌}
use native.Mathlib.Decide.{ℕ_discrete}
use native.Mathlib.Omega.{arith}
use lib.Dec.{T, eqb, leb, leb→le, eqb→eq, lit<}
use lib.Ieee.Fits.{and_l, and_r}
use lib.ListN.{length}
use borrow.Author.Tests.{ne_eqb}
use Rattle.rules.specs.Bits.{pick, row, every_below}
use Rattle.rules.specs.Answers.{is_reason}
use Rattle.rules.specs.Block.{lost_mask}
use Rattle.rules.specs.Totals.{is_block, is_lost, is_accepted, is_restored, is_undelivered, has_reason, counts, how_often, totals_of, agrees, AddRule, Summed}
use Rattle.rules.specs.Demands.{OfPosition}
use Rattle.rules.specs.declared.Receipt.{Receipt}
use Rattle.laws.specs.Every.{every-at}
use Rattle.adding.proofs.Counting.{not-not, at, of-reason, counts-kind}
use Rattle.adding.proofs.Sums.{Agreeing, summed, totals-long, totals-at}

-- ---- the eight totals, each by its test

often-same : (f g : Receipt → Bool) (rs : List Receipt) → ((a : Receipt) → f a ≡ g a) → how_often f rs ≡ how_often g rs
often-same f g [] same = refl
often-same f g (a ∷ rs) same = ap₂ (λ (b : Bool) (n : ℕ). pick b 1 0 + n) (same a) (often-same f g rs same)

counts_of : (p k : ℕ) (a : Receipt) → k < 8 → counts (8 * p + k) a ≡ at p k a
counts_of p k a lt =
    let position : (8 * p + k) / 8 ≡ p = omega arith in
    counts-kind (8 * p + k) a k (omega arith) ∙ ap (λ (q : ℕ). at q k a) position

total_of : (rs : List Receipt) (p k : ℕ) → p < 16 → k < 8 → row (totals_of rs) (8 * p + k) ≡ how_often (at p k) rs
total_of rs p k lp lk = totals-at rs (8 * p + k) (omega arith) ∙ often-same (counts (8 * p + k)) (at p k) rs (λ a. counts_of p k a lk)

total-reason : (rs : List Receipt) (p k : ℕ) → p < 16 → k < 5 → row (totals_of rs) (8 * p + (3 + k)) ≡ how_often (has_reason (11 + k) p) rs
total-reason rs p k lp lk = total_of rs p (3 + k) lp (omega arith) ∙ often-same (at p (3 + k)) (has_reason (11 + k) p) rs (λ a. of-reason p k a lk)

-- ---- accepted, restored and undelivered together

abbrev one : Bool → ℕ
one b = pick b 1 0

-- for a number that is 0, or 9 or 10, or neither, and not both
three : (zero later lost : Bool) → (T zero → T later → ⊥)
    → one ((zero || later) && not lost) + one (lost && zero) + one (lost && later) ≡ one (zero || later)
three true true lost not-both = absurd (not-both tt tt)
three true false true not-both = refl
three true false false not-both = refl
three false true true not-both = refl
three false true false not-both = refl
three false false true not-both = refl
three false false false not-both = refl

or_assoc : (a b c : Bool) → (a || b || c) ≡ (a || (b || c))
or_assoc true b c = refl
or_assoc false b c = refl

module _ (p : ℕ) (a : Receipt) where
  abbrev later : Bool
  later = eqb a.number 9 || eqb a.number 10

  not-both : T (eqb a.number 0) → T later → ⊥
  not-both z t = subst (λ (n : ℕ). T (eqb n 9 || eqb n 10)) (eqb→eq a.number 0 z) t

  three-of : one (is_accepted p a) + one (is_restored p a) + one (is_undelivered p a) ≡ one (is_block a)
  three-of =
      let e : is_block a ≡ (eqb a.number 0 || later) = or_assoc (eqb a.number 0) (eqb a.number 9) (eqb a.number 10) in
      ap (λ (b : Bool). one (b && not (is_lost p a)) + one (is_restored p a) + one (is_undelivered p a)) e
      ∙ three (eqb a.number 0) later (is_lost p a) not-both
      ∙ ap one (sym e)

blocks-of : (p : ℕ) (rs : List Receipt) → how_often (is_accepted p) rs + how_often (is_restored p) rs + how_often (is_undelivered p) rs ≡ how_often is_block rs
blocks-of p [] = refl
blocks-of p (a ∷ rs) = omega (arith, blocks-of p rs, three-of p a)

-- ---- the five reasons together

abbrev tally : ℕ → ℕ
tally r = one (eqb r 11) + one (eqb r 12) + one (eqb r 13) + one (eqb r 14) + one (eqb r 15)

tally-lost : (k : ℕ) → k < 5 → tally (11 + k) ≡ 1
tally-lost zero lt = refl
tally-lost (suc zero) lt = refl
tally-lost (suc (suc zero)) lt = refl
tally-lost (suc (suc (suc zero))) lt = refl
tally-lost (suc (suc (suc (suc zero)))) lt = refl
tally-lost (suc (suc (suc (suc (suc k))))) lt = absurd (omega arith)

or_left : (b c : Bool) → b ≡ false → T (b || c) → T c
or_left true c e t = absurd (subst T e tt)
or_left false c e t = t

-- of a reason that there is, one of the five, or 0
tally-of : (r : ℕ) → T (is_reason r) → tally r + one (eqb r 0) ≡ 1
tally-of r t = go (ℕ_discrete r 0)
  where
    go : Dec (r ≡ 0) → tally r + one (eqb r 0) ≡ 1
    go (yes e) = subst (λ (x : ℕ). tally x + one (eqb x 0) ≡ 1) (sym e) refl
    go (no ne) =
        let range = or_left (eqb r 0) (leb 11 r && leb r 15) (ne_eqb r 0 ne) t in
        let low = leb→le 11 r (and_l (leb 11 r) (leb r 15) range) in
        let high = leb→le r 15 (and_r (leb 11 r) (leb r 15) range) in
        let k : ℕ = r - 11 in
        let e : r ≡ 11 + k = omega (arith, low) in
        let none : one (eqb r 0) ≡ 0 = ap one (ne_eqb r 0 ne) in
        omega (arith, none, ap tally e ∙ tally-lost k (omega (arith, e, high)))

module _ (p : ℕ) (a : Receipt) (lt : p < 16) (good : T (is_block a) → T (agrees a)) where
  abbrev reason : ℕ
  reason = row a.reasons p

  abbrev came : ℕ → ℕ
  came n = one (has_reason n p a)

  came-is : (b : Bool) → is_block a ≡ b → (n : ℕ) → came n ≡ one (b && eqb reason n)
  came-is b e n = ap (λ (x : Bool). one (x && eqb reason n)) e

  five-of : came 11 + came 12 + came 13 + came 14 + came 15 ≡ one (is_restored p a) + one (is_undelivered p a)
  five-of = go (is_block a) refl
    where
      go : (b : Bool) → is_block a ≡ b → came 11 + came 12 + came 13 + came 14 + came 15 ≡ one (is_restored p a) + one (is_undelivered p a)
      go true e =
          let known-reason = every-at 16 (λ q. is_reason (row a.reasons q))
          (and_r (eqb a.lost (lost_mask 16 (row a.reasons))) (every_below 16 (λ q. is_reason (row a.reasons q))) (good (subst T (sym e) tt))) p lt in
          let accepted : one (is_accepted p a) ≡ one (eqb reason 0) =
          ap (λ (x : Bool). one (x && not (is_lost p a))) e ∙ ap one (not-not (eqb reason 0)) in
          let block : one (is_block a) ≡ 1 = ap one e in
          omega (
            arith,
            three-of p a,
            tally-of reason known-reason,
            accepted,
            block,
            came-is true e 11,
            came-is true e 12,
            came-is true e 13,
            came-is true e 14,
            came-is true e 15,
          )
      go false e =
          let block : one (is_block a) ≡ 0 = ap one e in
          omega (arith, three-of p a, block, came-is false e 11, came-is false e 12, came-is false e 13, came-is false e 14, came-is false e 15)

lost-of : (p : ℕ) (rs : List Receipt) → p < 16 → Agreeing rs
    → how_often (has_reason 11 p) rs + how_often (has_reason 12 p) rs + how_often (has_reason 13 p) rs + how_often (has_reason 14 p) rs + how_often (has_reason 15 p) rs
    ≡ how_often (is_restored p) rs + how_often (is_undelivered p) rs
lost-of p [] lt good = refl
lost-of p (a ∷ rs) lt good = omega (arith, lost-of p rs lt good.1, five-of p a lt good.0)

-- ---- the position

of-totals : (rs : List Receipt) (p : ℕ) → p < 16 → Agreeing rs → OfPosition rs (totals_of rs) p
of-totals rs p lt good =
    let t = totals_of rs in
    let at-start : 8 * p ≡ 8 * p + 0 = omega arith in
    let first : row t (8 * p) ≡ how_often (is_accepted p) rs = ap (row t) at-start ∙ total_of rs p 0 lt (lit< tt) in
    let second : row t (8 * p + 1) ≡ how_often (is_restored p) rs = total_of rs p 1 lt (lit< tt) in
    let third : row t (8 * p + 2) ≡ how_often (is_undelivered p) rs = total_of rs p 2 lt (lit< tt) in
    record {
      accepted = first;
      restored = second;
      undelivered = third;
      reasons = λ n low high.
          let k : ℕ = n - 11 in
          let at-k : n - 8 ≡ 3 + k = omega (arith, low) in
          let n-is : 11 + k ≡ n = omega (arith, low) in
          ap (λ (j : ℕ). row t (8 * p + j)) at-k ∙ total-reason rs p k lt (omega (arith, low, high)) ∙ ap (λ (m : ℕ). how_often (has_reason m p) rs) n-is;
      blocks = omega (arith, first, second, third, blocks-of p rs);
      lost = omega (
        arith,
        second,
        third,
        lost-of p rs lt good,
        total-reason rs p 0 lt (lit< tt),
        total-reason rs p 1 lt (lit< tt),
        total-reason rs p 2 lt (lit< tt),
        total-reason rs p 3 lt (lit< tt),
        total-reason rs p 4 lt (lit< tt),
      );
    }

pub counted : (rs : List Receipt) (t : List ℕ) → Summed AddRule rs t → (length t ≡ 128) × ((p : ℕ) → p < 16 → OfPosition rs t p)
counted rs t s =
    let h = summed rs t s in
    (ap length h.totals ∙ totals-long rs, λ p lt. subst (λ (l : List ℕ). OfPosition rs l p) (sym h.totals) (of-totals rs p lt h.agreeing))

-- What a total counts of a block, by its place among the eight of a position.
use mathlib.Core.Path.{◌≡◌, refl, sym, ap, ap₂, subst, ◌∙◌}
use mathlib.Core.Bool.{Bool, true, false, not, ◌||◌, ◌&&◌}
use mathlib.Core.List.{List}
use Prim.Native.Nat.{ℕ, zero, suc, ◌+◌, ◌-◌, ◌/◌, ◌%◌, ◌^◌, ◌<◌, ◌≤◌}
use native.Mathlib.Omega.{arith}
use lib.Dec.{T, eqb, ltb, ltb→lt}
use lib.ListN.{length, get_or}
use borrow.Author.Tests.{lt-ltb, le-ltb}
use Rattle.rules.specs.Bits.{pick, row}
use Rattle.rules.specs.Totals.{is_block, is_lost, has_reason, kinds, counts, plus, fits}
use Rattle.rules.specs.declared.Receipt.{Receipt}
use Rattle.laws.specs.Every.{every-at, length-first, first-at}
use Rattle.laws.specs.Holds.{Holds, holds_one}

-- a test that holds, before another
known : (b c : Bool) → T b → (b && c) ≡ c
known true c t = refl
known false c t = absurd t

pub not-not : (b : Bool) → not (not b) ≡ b
not-not true = refl
not-not false = refl

abbrev pub at : ℕ → ℕ → Receipt → Bool
at p k a = get_or (kinds p) k (λ a. false) a

-- the five last are the reasons
pub of-reason : (p k : ℕ) (a : Receipt) → k < 5 → at p (3 + k) a ≡ has_reason (11 + k) p a
of-reason p zero a lt = refl
of-reason p (suc zero) a lt = refl
of-reason p (suc (suc zero)) a lt = refl
of-reason p (suc (suc (suc zero))) a lt = refl
of-reason p (suc (suc (suc (suc zero)))) a lt = refl
of-reason p (suc (suc (suc (suc (suc k))))) a lt = absurd (omega arith)

-- of no block nothing counts
or_l : (b c : Bool) → (b || c) ≡ false → b ≡ false
or_l true c e = e
or_l false c e = refl

or_r : (b c : Bool) → (b || c) ≡ false → c ≡ false
or_r true c e = absurd (subst T e tt)
or_r false c e = e

and-not : (b c : Bool) → c ≡ false → (b && c) ≡ false
and-not true c e = e
and-not false c e = refl

none-at : (p k : ℕ) (a : Receipt) → is_block a ≡ false → at p k a ≡ false
none-at p zero a e = ap (λ (b : Bool). b && not (is_lost p a)) e
none-at p (suc zero) a e = and-not (is_lost p a) (eqb a.number 0)
    (or_l (eqb a.number 0) (eqb a.number 9) (or_l (eqb a.number 0 || eqb a.number 9) (eqb a.number 10) e))
none-at p (suc (suc zero)) a e = and-not (is_lost p a) (eqb a.number 9 || eqb a.number 10)
    (ap₂ ◌||◌ (or_r (eqb a.number 0) (eqb a.number 9) (or_l (eqb a.number 0 || eqb a.number 9) (eqb a.number 10) e))
    (or_r (eqb a.number 0 || eqb a.number 9) (eqb a.number 10) e))
none-at p (suc (suc (suc zero))) a e = ap (λ (b : Bool). b && eqb (row a.reasons p) 11) e
none-at p (suc (suc (suc (suc zero)))) a e = ap (λ (b : Bool). b && eqb (row a.reasons p) 12) e
none-at p (suc (suc (suc (suc (suc zero))))) a e = ap (λ (b : Bool). b && eqb (row a.reasons p) 13) e
none-at p (suc (suc (suc (suc (suc (suc zero)))))) a e = ap (λ (b : Bool). b && eqb (row a.reasons p) 14) e
none-at p (suc (suc (suc (suc (suc (suc (suc zero))))))) a e = ap (λ (b : Bool). b && eqb (row a.reasons p) 15) e
none-at p (suc (suc (suc (suc (suc (suc (suc (suc k)))))))) a e = refl

module _ (i : ℕ) (a : Receipt) where
  abbrev reason : ℕ
  reason = row a.reasons (i / 8)

  pub counts-kind : (k : ℕ) → i % 8 ≡ k → counts i a ≡ at (i / 8) k a
  unfolding counts
  counts-kind k e = ap (λ (j : ℕ). at (i / 8) j a) e

  pub counts-none : is_block a ≡ false → counts i a ≡ false
  counts-none e = counts-kind (i % 8) refl ∙ none-at (i / 8) (i % 8) a e

  pub counts-accepted : T (is_block a) → i % 8 ≡ 0 → counts i a ≡ eqb reason 0
  counts-accepted t e = counts-kind 0 e ∙ known (is_block a) (not (is_lost (i / 8) a)) t ∙ not-not (eqb reason 0)

  pub counts-restored : i % 8 ≡ 1 → counts i a ≡ (not (eqb reason 0) && eqb a.number 0)
  counts-restored e = counts-kind 1 e

  pub counts-undelivered : i % 8 ≡ 2 → counts i a ≡ (not (eqb reason 0) && (eqb a.number 9 || eqb a.number 10))
  counts-undelivered e = counts-kind 2 e

  pub counts-reason : (k : ℕ) → T (is_block a) → i % 8 ≡ 3 + k → k < 5 → counts i a ≡ eqb reason (11 + k)
  counts-reason k t e lt = counts-kind (3 + k) e ∙ of-reason (i / 8) k a lt ∙ known (is_block a) (eqb reason (11 + k)) t

-- ---- the totals with a receipt more

abbrev pub once : ℕ → Receipt → ℕ
once i a = pick (counts i a) 1 0

pub plus-long : (t : List ℕ) (a : Receipt) → length (plus t a) ≡ length t
unfolding plus
plus-long t a = length-first (length t) (λ i. row t i + once i a)

pub plus-at : (t : List ℕ) (a : Receipt) (i : ℕ) → i < length t → row (plus t a) i ≡ row t i + once i a
unfolding plus
plus-at t a = first-at (length t) (λ i. row t i + once i a)

pub once_is : (i : ℕ) (a : Receipt) (b : Bool) → counts i a ≡ b → once i a ≡ pick b 1 0
once_is i a b e = ap {B = ℕ} (λ (b : Bool). pick b 1 0) e

-- a total that is full has no room where it counts the receipt; every other one has, and one that is full has it where it does not count it
pub full : (t : List ℕ) (a : Receipt) (i : ℕ) → i < length t → row t i ≡ 2 ^ 64 - 1 → counts i a ≡ true → ltb (row (plus t a) i) (2 ^ 64) ≡ false
full t a i lt e q =
    let over : 2 ^ 64 ≤ row (plus t a) i = omega (arith, plus-at t a i lt, once_is i a true q) in
    le-ltb (row (plus t a) i) (2 ^ 64) over

pub room : (t : List ℕ) (a : Receipt) (i : ℕ) → i < length t → row t i < 2 ^ 64 → (row t i ≡ 2 ^ 64 - 1 → counts i a ≡ false)
    → ltb (row (plus t a) i) (2 ^ 64) ≡ true
room t a i lt less unless = lt-ltb (row (plus t a) i) (2 ^ 64) (go (counts i a) refl)
  where
    go : (b : Bool) → counts i a ≡ b → row (plus t a) i < 2 ^ 64
    go true q =
        let other : ¬ (row t i ≡ 2 ^ 64 - 1) = λ e. subst T (sym q ∙ unless e) tt in
        omega (arith, plus-at t a i lt, once_is i a true q)
    go false q = omega (arith, plus-at t a i lt, once_is i a false q)

pub fits-at : (t : List ℕ) → T (fits t) → (i : ℕ) → i < 128 → row t i < 2 ^ 64
unfolding fits
fits-at t h i lt = ltb→lt (row t i) (2 ^ 64) (every-at 128 (λ i. ltb (row t i) (2 ^ 64)) h i lt)

-- a list that holds each total with the receipt added is that list
pub plus-holds : (t t' : List ℕ) (a : Receipt) (n : ℕ) → length t ≡ n → Holds 0 n (λ i. row t i + once i a) t' → t' ≡ plus t a
plus-holds t t' a n long h =
    holds_one 0 h
    (record {
      long = plus-long t a ∙ long;
      each = λ i lt. plus-at t a i (subst (λ (m : ℕ). i < m) (sym long) lt);
    })

pub plus_none : (t : List ℕ) (a : Receipt) → is_block a ≡ false → plus t a ≡ t
plus_none t a e =
    sym (plus-holds t t a (length t) refl
    (record {
      long = refl;
      each = λ i lt. let zero : once i a ≡ 0 = once_is i a false (counts-none i a e) in omega (arith, zero);
    }))

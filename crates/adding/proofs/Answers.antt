-- When adding answers what, in the words of the request: no block, 23, 19; and one answer only.
use mathlib.Core.Path.{◌≡◌, refl, sym, ap, subst, ◌∙◌}
use mathlib.Core.Bool.{Bool, true, false, ◌&&◌}
use mathlib.Core.List.{List, ◌∷◌}
use mathlib.Core.Logic.{◌⊎◌, ⊎_elim, inl, inr, ◌↔◌}
use Prim.Native.Nat.{ℕ, ◌^◌, ◌<◌, ◌≤◌}
use native.Mathlib.Decide.{ℕ_discrete}
use native.Mathlib.Omega.{arith}
use lib.Dec.{T, ltb}
use lib.Ieee.Bits.{is_true}
use lib.ListN.{length}
use borrow.Author.Tests.{ltb-false, le-ltb, eq-eqb}
use Rattle.rules.specs.Bits.{pick, row}
use Rattle.rules.specs.Answers.{is_adding_number}
use Rattle.rules.specs.Totals.{is_block, counts, how_often, agrees, plus, fits, AddRule, Summed}
use Rattle.rules.specs.Demands.{InAgreement}
use Rattle.rules.specs.declared.Receipt.{Receipt}
use Rattle.laws.specs.Every.{every-fails, every-not}
use Rattle.adding.proofs.Counting.{once, plus-at, plus_none}
use Rattle.adding.proofs.Numbers.{Way, way, right, number-no-block, number-length, number-disagrees, number-full}
use Rattle.adding.proofs.Numbers.Way.{none, wrong, full, taken}
use Rattle.adding.proofs.Sums.{Added, summed, totals-long, totals-at}
use Rattle.adding.proofs.Agreement.{in-agreement, agreement}

not_so : (b : Bool) → ¬ T b → b ≡ false
not_so true ne = absurd (ne tt)
not_so false ne = refl

at_most : (b : Bool) → pick b 1 0 ≤ 1
at_most true = omega arith
at_most false = omega arith

module _ (before : List ℕ) (a : Receipt) (after : List ℕ) (n : ℕ) (r : AddRule before a after n) where
  went : Way before a n
  went = subst (Way before a) (sym r.number) (way before a)

  pub told : T (is_adding_number n) × (¬ (n ≡ 0) → after ≡ before)
  told = (go went, r.kept)
    where
      go : {m : ℕ} → Way before a m → T (is_adding_number m)
      go (none q) = tt
      go (wrong b g) = tt
      go (full b long g f) = tt
      go (taken b long g f) = tt

  pub no_block : ¬ T (is_block a) → (n ≡ 0) × (after ≡ before)
  no_block ne =
      let e = not_so (is_block a) ne in
      let zero : n ≡ 0 = r.number ∙ number-no-block before a e in
      (zero, r.added zero ∙ plus_none before a e)

  -- where the totals are 128 and mask and reasons agree, it isn't 23
  pub never-23 : length before ≡ 128 → T (agrees a) → ¬ (n ≡ 23)
  never-23 long g = go went
    where
      go : {m : ℕ} → Way before a m → ¬ (m ≡ 23)
      go (none q) e = omega (arith, e)
      go (wrong b w) e = subst T (sym (ap (λ (x : Bool). x && agrees a) (eq-eqb (length before) 128 long)) ∙ w) g
      go (full b l h f) e = omega (arith, e)
      go (taken b l h f) e = omega (arith, e)

  pub says_23 : a.lost < 2 ^ 16 → (n ≡ 23) ↔ (T (is_block a) × (¬ (length before ≡ 128) ⊎ ¬ InAgreement a))
  says_23 small = (go went, back)
    where
      which : right before a ≡ false → Dec (length before ≡ 128) → ¬ (length before ≡ 128) ⊎ ¬ InAgreement a
      which w (yes long) = inr (λ h. subst T (sym (ap (λ (x : Bool). x && agrees a) (eq-eqb (length before) 128 long)) ∙ w) (agreement a small h))
      which w (no ne) = inl ne

      go : {m : ℕ} → Way before a m → m ≡ 23 → T (is_block a) × (¬ (length before ≡ 128) ⊎ ¬ InAgreement a)
      go (none q) e = absurd (omega (arith, e))
      go (wrong b w) e = (b, which w (ℕ_discrete (length before) 128))
      go (full b l h f) e = absurd (omega (arith, e))
      go (taken b l h f) e = absurd (omega (arith, e))

      back : T (is_block a) × (¬ (length before ≡ 128) ⊎ ¬ InAgreement a) → n ≡ 23
      back w =
          r.number
          ∙ ⊎_elim (number-length before a (is_true (is_block a) w.0))
          (λ ne. number-disagrees before a (is_true (is_block a) w.0) (not_so (agrees a) (λ g. ne (in-agreement a g)))) w.1

  -- after receipts that were added from the start
  module _ (rs : List Receipt) (s : Summed AddRule rs before) where
    has : Added rs before
    has = summed rs before s

    long : length before ≡ 128
    long = ap length has.totals ∙ totals-long rs

    -- what total i then would be
    would : (i : ℕ) → i < 128 → row (plus before a) i ≡ how_often (counts i) (a ∷ rs)
    would i lt =
        let held : row before i ≡ how_often (counts i) rs = ap (λ (l : List ℕ). row l i) has.totals ∙ totals-at rs i lt in
        omega (arith, plus-at before a i (omega (arith, long, lt)), held)

    pub says_19 : a.lost < 2 ^ 16 → (n ≡ 19) ↔ (T (is_block a) × InAgreement a × ((i : ℕ) × (i < 128) × (how_often (counts i) (a ∷ rs) ≡ 2 ^ 64)))
    unfolding fits
    says_19 small = (go went, back)
      where
        once-small : (i : ℕ) → once i a ≤ 1
        once-small i = at_most (counts i a)

        roomy : ℕ → Bool
        roomy i = ltb (row (plus before a) i) (2 ^ 64)

        go : {m : ℕ} → Way before a m → m ≡ 19 → T (is_block a) × InAgreement a × ((i : ℕ) × (i < 128) × (how_often (counts i) (a ∷ rs) ≡ 2 ^ 64))
        go (none q) e = absurd (omega (arith, e))
        go (wrong b w) e = absurd (omega (arith, e))
        go (full b l g f) e =
            let w = every-not 128 roomy f in
            let over : 2 ^ 64 ≤ row (plus before a) w.0 = ltb-false (row (plus before a) w.0) (2 ^ 64) w.2 in
            (b, in-agreement a g, (w.0, w.1, omega (arith, over, would w.0 w.1, has.small w.0 w.1, once-small w.0)))
        go (taken b l g f) e = absurd (omega (arith, e))

        back : T (is_block a) × InAgreement a × ((i : ℕ) × (i < 128) × (how_often (counts i) (a ∷ rs) ≡ 2 ^ 64)) → n ≡ 19
        back w =
            let i = w.2.0 in
            let over : 2 ^ 64 ≤ row (plus before a) i = omega (arith, would i w.2.1, w.2.2) in
            r.number
            ∙ number-full before a (is_true (is_block a) w.0) long (is_true (agrees a) (agreement a small w.1))
            (every-fails 128 roomy i w.2.1 (le-ltb (row (plus before a) i) (2 ^ 64) over))

pub one_adding : (before : List ℕ) (a : Receipt) (after after' : List ℕ) (n m : ℕ)
    → AddRule before a after n
    → AddRule before a after' m
    → (n ≡ m) × (after ≡ after')
one_adding before a after after' n m r q = (same, go (ℕ_discrete n 0))
  where
    same : n ≡ m
    same = r.number ∙ sym q.number

    go : Dec (n ≡ 0) → after ≡ after'
    go (yes e) = r.added e ∙ sym (q.added (sym same ∙ e))
    go (no ne) = r.kept ne ∙ sym (q.kept (λ e. ne (same ∙ e)))

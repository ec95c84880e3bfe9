-- A call can't lawfully return two results: the answer that the rules speak of tells the result, so where a rule leaves one answer, it leaves one result.
use mathlib.Core.Path.{◌≡◌, refl, sym, ap, ◌∙◌}
use mathlib.Core.Bool.{Bool, true, false, not, ◌&&◌}
use mathlib.Core.List.{List}
use Prim.Native.Nat.{ℕ, ◌%◌, ◌<◌}
use native.Mathlib.Omega.{arith}
use lib.Dec.{eqb}
use lib.Ieee.{Float}
use lib.ListN.{length}
use Rattle.std.specs.Prelude.{⊤, Result, Ok, Err}
use Rattle.rules.specs.Bits.{pick}
use Rattle.rules.specs.Answers.{Answer, refusal_number, refusal_place, answer_of}
use Rattle.rules.specs.Profile.{Reading, reading_of, Writing, writing_of}
use Rattle.rules.specs.Compare.{Grids, Comparison, comparison_of, one_length, comparing_number, CompareRule}
use Rattle.rules.specs.Totals.{is_block, agrees, plus, fits, adding_number, totals_after, AddRule}
use Rattle.rules.specs.Block.{SendRule, SendSymbolRule}
use Rattle.rules.specs.Pieces.{FeedRule}
use Rattle.rules.specs.declared.Profile.{Profile}
use Rattle.rules.specs.declared.Receipt.{Receipt}
use Rattle.rules.specs.declared.Totals.{Totals}
use Rattle.rules.specs.declared.Written.{Written}
use Rattle.rules.specs.declared.Refusal.{Refusal}
use Rattle.rules.specs.declared.Refusal.TheVariants.{EndsInField, WrongTag, WrongLength, EndsBetweenFields, WrongData, WrongCells, OutsideGrid, TooManyLost, NoCodeword, PastEnd, Unfinished, UnequalGrids, FullTotal, NoSuchState, Disagreement, Mask, Level, Mode, K, Seed, Floor, Twins}
use Rattle.laws.specs.Refused.{refusal-not-zero}
use Rattle.comparing.proofs.SideBySide.{side_by_side}
use Rattle.adding.proofs.Answers.{one_adding}
use Rattle.card.proofs.D2.{d2}

-- the refusal of a number and a place
refusal_of : ℕ → ℕ → Refusal
refusal_of n at =
    pick (eqb n 1) EndsInField (
    pick (eqb n 2) WrongTag (
    pick (eqb n 3) WrongLength (
    pick (eqb n 5) EndsBetweenFields (
    pick (eqb n 6) WrongData (
    pick (eqb n 7) WrongCells (
    pick (eqb n 8) OutsideGrid (
    pick (eqb n 9) TooManyLost (
    pick (eqb n 10) NoCodeword (
    pick (eqb n 16) PastEnd (
    pick (eqb n 17) Unfinished (
    pick (eqb n 18) UnequalGrids (
    pick (eqb n 19) FullTotal (
    pick (eqb n 22) NoSuchState (
    pick (eqb n 23) Disagreement (
    pick (eqb n 40) (Mask at) (
    pick (eqb n 41) (Level at) (
    pick (eqb n 42) (Mode at) (
    pick (eqb n 43) (K at) (
    pick (eqb n 44) (Seed at) (
    pick (eqb n 45) (Floor at) (
    Twins at)))))))))))))))))))))

refusal-told : (e : Refusal) → refusal_of (refusal_number e) (refusal_place e) ≡ e
unfolding refusal_of
refusal-told EndsInField = refl
refusal-told WrongTag = refl
refusal-told WrongLength = refl
refusal-told EndsBetweenFields = refl
refusal-told WrongData = refl
refusal-told WrongCells = refl
refusal-told OutsideGrid = refl
refusal-told TooManyLost = refl
refusal-told NoCodeword = refl
refusal-told PastEnd = refl
refusal-told Unfinished = refl
refusal-told UnequalGrids = refl
refusal-told FullTotal = refl
refusal-told NoSuchState = refl
refusal-told Disagreement = refl
refusal-told (Mask at) = refl
refusal-told (Level at) = refl
refusal-told (Mode at) = refl
refusal-told (K at) = refl
refusal-told (Seed at) = refl
refusal-told (Floor at) = refl
refusal-told (Twins at) = refl

-- the result of an answer, where being done gives this value
result_of : {A : Type 0} → A → ℕ → ℕ → Result A Refusal
result_of x n at = pick (eqb n 0) (Ok x) (Err (refusal_of n at))

refused-told : {A : Type 0} (x : A) (e : Refusal) → result_of x (refusal_number e) (refusal_place e) ≡ Err e
unfolding result_of
refused-told x EndsInField = ap Err (refusal-told EndsInField)
refused-told x WrongTag = ap Err (refusal-told WrongTag)
refused-told x WrongLength = ap Err (refusal-told WrongLength)
refused-told x EndsBetweenFields = ap Err (refusal-told EndsBetweenFields)
refused-told x WrongData = ap Err (refusal-told WrongData)
refused-told x WrongCells = ap Err (refusal-told WrongCells)
refused-told x OutsideGrid = ap Err (refusal-told OutsideGrid)
refused-told x TooManyLost = ap Err (refusal-told TooManyLost)
refused-told x NoCodeword = ap Err (refusal-told NoCodeword)
refused-told x PastEnd = ap Err (refusal-told PastEnd)
refused-told x Unfinished = ap Err (refusal-told Unfinished)
refused-told x UnequalGrids = ap Err (refusal-told UnequalGrids)
refused-told x FullTotal = ap Err (refusal-told FullTotal)
refused-told x NoSuchState = ap Err (refusal-told NoSuchState)
refused-told x Disagreement = ap Err (refusal-told Disagreement)
refused-told x (Mask at) = ap Err (refusal-told (Mask at))
refused-told x (Level at) = ap Err (refusal-told (Level at))
refused-told x (Mode at) = ap Err (refusal-told (Mode at))
refused-told x (K at) = ap Err (refusal-told (K at))
refused-told x (Seed at) = ap Err (refusal-told (Seed at))
refused-told x (Floor at) = ap Err (refusal-told (Floor at))
refused-told x (Twins at) = ap Err (refusal-told (Twins at))

answer-told : (r : Result ⊤ Refusal) → result_of tt (answer_of r).number (answer_of r).place ≡ r
unfolding result_of
answer-told (Ok x) = refl
answer-told (Err e) = refused-told tt e

reading-told : (r : Result Profile Refusal) → result_of (reading_of r).profile (reading_of r).number (reading_of r).place ≡ r
unfolding result_of
reading-told (Ok p) = refl
reading-told (Err e) = refused-told _ e

pub one-result : (r s : Result ⊤ Refusal) → answer_of r ≡ answer_of s → r ≡ s
one-result r s e = sym (answer-told r) ∙ ap (λ (a : Answer). result_of tt a.number a.place) e ∙ answer-told s

pub one-reading : (r s : Result Profile Refusal) → reading_of r ≡ reading_of s → r ≡ s
one-reading r s e = sym (reading-told r) ∙ ap (λ (a : Reading). result_of a.profile a.number a.place) e ∙ reading-told s

-- ---- the calls that fill a grid, and feeding

pub one-sent : (P : Profile) (d : List ℕ) (f s f' s' f'' s'' : List Float) (r q : Result ⊤ Refusal)
    → SendRule P d f s f' s' (answer_of r)
    → SendRule P d f s f'' s'' (answer_of q)
    → (r ≡ q) × (f' ≡ f'') × (s' ≡ s'')
one-sent P d f s f' s' f'' s'' r q x y =
    let p = d2.one_grid P d f s f' s' f'' s'' _ _ x y in
    (one-result r q p.0, p.1, p.2)

pub one-sent-symbol : (P : Profile) (d : List ℕ) (symbol : ℕ) (f s f' s' f'' s'' : List Float) (r q : Result ⊤ Refusal)
    → SendSymbolRule P d symbol f s f' s' (answer_of r)
    → SendSymbolRule P d symbol f s f'' s'' (answer_of q)
    → (r ≡ q) × (f' ≡ f'') × (s' ≡ s'')
one-sent-symbol P d symbol f s f' s' f'' s'' r q x y =
    let p = d2.one_symbol P d symbol f s f' s' f'' s'' _ _ x y in
    (one-result r q p.0, p.1, p.2)

pub one-fed : (P : Profile) (f s : List Float) (before after after' : List ℕ) (r q : Result ⊤ Refusal)
    → FeedRule P f s before after (answer_of r)
    → FeedRule P f s before after' (answer_of q)
    → (r ≡ q) × (after ≡ after')
one-fed P f s before after after' r q x y =
    let p = d2.one_feeding P f s before after after' _ _ x y in
    (one-result r q p.0, p.1)

-- ---- where the rule speaks of the number alone, which is below 40: comparing and adding

placeless : (e : Refusal) → refusal_number e < 40 → refusal_place e ≡ 0
placeless EndsInField l = refl
placeless WrongTag l = refl
placeless WrongLength l = refl
placeless EndsBetweenFields l = refl
placeless WrongData l = refl
placeless WrongCells l = refl
placeless OutsideGrid l = refl
placeless TooManyLost l = refl
placeless NoCodeword l = refl
placeless PastEnd l = refl
placeless Unfinished l = refl
placeless UnequalGrids l = refl
placeless FullTotal l = refl
placeless NoSuchState l = refl
placeless Disagreement l = refl
placeless (Mask at) l = absurd (omega arith)
placeless (Level at) l = absurd (omega arith)
placeless (Mode at) l = absurd (omega arith)
placeless (K at) l = absurd (omega arith)
placeless (Seed at) l = absurd (omega arith)
placeless (Floor at) l = absurd (omega arith)
placeless (Twins at) l = absurd (omega arith)

same-refusal : (d e : Refusal) → refusal_number d ≡ refusal_number e → refusal_number d < 40 → d ≡ e
same-refusal d e n l =
    sym (refusal-told d)
    ∙ ap (λ (k : ℕ). refusal_of k (refusal_place d)) n
    ∙ ap (λ (k : ℕ). refusal_of (refusal_number e) k) (placeless d l ∙ sym (placeless e (omega (arith, n, l))))
    ∙ refusal-told e

small-compared : (fa sa fb sb : ℕ) → comparing_number fa sa fb sb < 40
unfolding comparing_number
small-compared fa sa fb sb = go (one_length fa sa fb sb) (eqb (fa % 4096) 0)
  where
    go : (b c : Bool) → pick {A = ℕ} (not b) 18 (pick (not c) 7 0) < 40
    go true true = omega arith
    go true false = omega arith
    go false c = omega arith

small-added : (t : List ℕ) (a : Receipt) → adding_number t a < 40
unfolding adding_number
small-added t a = go (is_block a) (eqb (length t) 128 && agrees a) (fits (plus t a))
  where
    go : (b c d : Bool) → pick {A = ℕ} (not b) 0 (pick (not c) 23 (pick (not d) 19 0)) < 40
    go true true true = omega arith
    go true true false = omega arith
    go true false d = omega arith
    go false c d = omega arith

counted : (r q : Result ℕ Refusal) → comparison_of r ≡ comparison_of q → (comparison_of r).number < 40 → r ≡ q
counted (Ok n) (Ok m) e l = ap Ok (ap (λ (c : Comparison). c.count) e)
counted (Ok n) (Err f) e l = absurd (refusal-not-zero f (sym (ap (λ (c : Comparison). c.number) e)))
counted (Err f) (Ok m) e l = absurd (refusal-not-zero f (ap (λ (c : Comparison). c.number) e))
counted (Err f) (Err g) e l = ap Err (same-refusal f g (ap (λ (c : Comparison). c.number) e) l)

pub one-compared : (from : ℕ) (G : Grids) (before after after' : List ℕ) (r q : Result ℕ Refusal)
    → CompareRule from G before after (comparison_of r)
    → CompareRule from G before after' (comparison_of q)
    → (r ≡ q) × (after ≡ after')
one-compared from G before after after' r q x y =
    let p = side_by_side.one_comparison from G before after after' _ _ x y in
    let small = small-compared (length G.firsts_a) (length G.seconds_a) (length G.firsts_b) (length G.seconds_b) in
    (counted r q p.0 (omega (arith, x.number, small)), p.1)

done : (r q : Result ⊤ Refusal) → (answer_of r).number ≡ (answer_of q).number → (answer_of r).number < 40 → r ≡ q
done (Ok x) (Ok y) n l = refl
done (Ok x) (Err e) n l = absurd (refusal-not-zero e (sym n))
done (Err d) (Ok y) n l = absurd (refusal-not-zero d n)
done (Err d) (Err e) n l = ap Err (same-refusal d e n l)

pub one-added : (before : List ℕ) (a : Receipt) (after after' : List ℕ) (r q : Result ⊤ Refusal)
    → AddRule before a after (answer_of r).number
    → AddRule before a after' (answer_of q).number
    → (r ≡ q) × (after ≡ after')
one-added before a after after' r q x y =
    let p = one_adding before a after after' _ _ x y in
    (done r q p.0 (omega (arith, x.number, small-added before a)), p.1)

-- totals that go by value: what comes back has them, or they stay with the caller
pub one-sum : (before : List ℕ) (a : Receipt) (r q : Result Totals Refusal)
    → AddRule before a (totals_after before r) (answer_of r).number
    → AddRule before a (totals_after before q) (answer_of q).number
    → r ≡ q
one-sum before a (Ok t) (Ok u) x y = let e = (one_adding before a _ _ _ _ x y).1 in λ i. Ok (record { counts = e i })
one-sum before a (Ok t) (Err e) x y = absurd (refusal-not-zero e (sym (one_adding before a _ _ _ _ x y).0))
one-sum before a (Err d) (Ok u) x y = absurd (refusal-not-zero d (one_adding before a _ _ _ _ x y).0)
one-sum before a (Err d) (Err e) x y = ap Err (same-refusal d e (one_adding before a _ _ _ _ x y).0 (omega (arith, x.number, small-added before a)))

-- ---- a profile's bytes and their count, which are all that a program has of what is written (that the count fits is no part of a run)

abbrev pub run_of : Result Written Refusal → Result (List ℕ × ℕ) Refusal
run_of (Ok w) = Ok (w.bytes, w.count)
run_of (Err e) = Err e

run-told : (r : Result Written Refusal) → result_of ((writing_of r).bytes, (writing_of r).count) (writing_of r).number (writing_of r).place ≡ run_of r
unfolding result_of
run-told (Ok w) = refl
run-told (Err e) = refused-told _ e

pub one-written : (r q : Result Written Refusal) → writing_of r ≡ writing_of q → run_of r ≡ run_of q
one-written r q e = sym (run-told r) ∙ ap (λ (a : Writing). result_of (a.bytes, a.count) a.number a.place) e ∙ run-told q

-- Req 05: the differences exactly, each once, in order, none left out; and symbol by symbol they are the whole grids'.
use mathlib.Core.Path.{◌≡◌, refl, sym, ◌∙◌, ap, ap₂, subst}
use mathlib.Core.Bool.{Bool, not, ◌&&◌}
use mathlib.Core.List.{List, ◌++◌, map}
use mathlib.Core.Logic.{◌⊎◌, ◌↔◌}
use Prim.Native.Nat.{ℕ, zero, suc, ◌+◌, ◌*◌, ◌/◌, ◌%◌, ◌<◌, ◌≤◌}
use native.Mathlib.Decide.{ℕ_discrete, dec_lt}
use native.Mathlib.Omega.{arith}
use borrow.Author.Tests.{eq-eqb, ne_eqb}
use lib.Dec.{T, eqb}
use lib.ListN.{length, take, drop, length-append, length-drop}
use lib.Seq.{ext_get_or, get_or-take, get_or-drop, length-take-le}
use Rattle.rules.specs.Bits.{row, passing}
use Rattle.rules.specs.Compare.{Grids, differs, differing, difference, one_length, comparing_number, CompareRule, symbol_alone, in_turn, total}
use Rattle.rules.specs.Demands.{Symbols, SideBySide}
use Rattle.rules.specs.Compare.{Comparison}
use Rattle.comparing.proofs.Lengths.{one-length, compared-lengths}
use Rattle.comparing.proofs.Passing.{each-passes, passing-rises, none-missing, passing-few, passing-parts, passing-shift, passing-same, map-long}
use Rattle.comparing.proofs.Filling.{filled-long, filled_at, filled-behind, filled-all, flat, flat-parts, flat-renumbered}

-- ---- the cells

module _ (G : Grids) where
  abbrev count : ℕ
  count = length G.firsts_a

  each_differs : (k : ℕ) → k < length (differing G) → (row (differing G) k < count) × T (differs G (row (differing G) k))
  unfolding differing
  each_differs k lt = let p = each-passes count 0 (differs G) k lt in (omega (arith, p.1), p.2)

  rising : (k l : ℕ) → k < l → l < length (differing G) → row (differing G) k < row (differing G) l
  unfolding differing
  rising = passing-rises count 0 (differs G)

  none_left_out : (i : ℕ) → i < count → T (differs G i) → (k : ℕ) × (k < length (differing G)) × (row (differing G) k ≡ i)
  unfolding differing
  none_left_out i lt t = none-missing count 0 (differs G) i (omega arith, omega arith, t)

  pub differing-few : length (differing G) ≤ count
  unfolding differing
  differing-few = passing-few count 0 (differs G)

  -- a cell that does not differ has the same parts
  alike : (i : ℕ) → ¬ T (differs G i) → (row G.firsts_a i ≡ row G.firsts_b i) × (row G.seconds_a i ≡ row G.seconds_b i)
  alike i no-t = go (ℕ_discrete (row G.firsts_a i) (row G.firsts_b i)) (ℕ_discrete (row G.seconds_a i) (row G.seconds_b i))
    where
      go : Dec (row G.firsts_a i ≡ row G.firsts_b i)
          → Dec (row G.seconds_a i ≡ row G.seconds_b i)
          → (row G.firsts_a i ≡ row G.firsts_b i) × (row G.seconds_a i ≡ row G.seconds_b i)
      go (yes p) (yes q) = (p, q)
      go (yes p) (no q) =
          absurd
          (no-t (rw (eq-eqb (row G.firsts_a i) (row G.firsts_b i) p, ne_eqb (row G.seconds_a i) (row G.seconds_b i) q) tt))
      go (no p) q = absurd (no-t (rw (ne_eqb (row G.firsts_a i) (row G.firsts_b i) p) tt))

  -- and one whose parts are the same does not differ
  not-other : (i : ℕ) → row G.firsts_a i ≡ row G.firsts_b i → row G.seconds_a i ≡ row G.seconds_b i → ¬ T (differs G i)
  not-other i p q = rw (eq-eqb (row G.firsts_a i) (row G.firsts_b i) p, eq-eqb (row G.seconds_a i) (row G.seconds_b i) q) (λ t. t)

  -- none differs exactly where the grids are the same
  same-grids : T (one_length count (length G.seconds_a) (length G.firsts_b) (length G.seconds_b))
      → (length (differing G) ≡ 0) ↔ ((G.firsts_a ≡ G.firsts_b) × (G.seconds_a ≡ G.seconds_b))
  same-grids t = (to, from)
    where
      long : (length G.seconds_a ≡ count) × (length G.firsts_b ≡ count) × (length G.seconds_b ≡ count)
      long = one-length count (length G.seconds_a) (length G.firsts_b) (length G.seconds_b) t

      at : length (differing G) ≡ 0 → (i : ℕ) → i < count → (row G.firsts_a i ≡ row G.firsts_b i) × (row G.seconds_a i ≡ row G.seconds_b i)
      at none i lt = alike i (λ d. let s = none_left_out i lt d in omega (arith, s.1, none))

      to : length (differing G) ≡ 0 → (G.firsts_a ≡ G.firsts_b) × (G.seconds_a ≡ G.seconds_b)
      to none = (
        ext_get_or 0 G.firsts_a G.firsts_b (sym long.1) (λ i lt. (at none i lt).0),
        ext_get_or 0 G.seconds_a G.seconds_b (long.0 ∙ sym long.2) (λ i lt. (at none i (omega (arith, long.0))).1),
      )

      from : (G.firsts_a ≡ G.firsts_b) × (G.seconds_a ≡ G.seconds_b) → length (differing G) ≡ 0
      from e = go (dec_lt 0 (length (differing G)))
        where
          go : Dec (0 < length (differing G)) → length (differing G) ≡ 0
          go (yes lt) =
              let i : ℕ = row (differing G) 0 in
              absurd (not-other i (ap (λ (l : List ℕ). row l i) e.0) (ap (λ (l : List ℕ). row l i) e.1) (each_differs 0 lt).1)
          go (no ge) = omega arith

-- whole symbols, as many in each list, are not refused
pub symbols-number : (G : Grids) (n : ℕ)
    → Symbols G n
    → comparing_number (length G.firsts_a) (length G.seconds_a) (length G.firsts_b) (length G.seconds_b) ≡ 0
unfolding comparing_number
symbols-number G n s =
    let whole : length G.firsts_a % 4096 ≡ 0 = omega (arith, s.0) in
    rw (
      eq-eqb (length G.seconds_a) (length G.firsts_a) (s.1 ∙ sym s.0),
      eq-eqb (length G.firsts_b) (length G.firsts_a) (s.2 ∙ sym s.0),
      eq-eqb (length G.seconds_b) (length G.firsts_a) (s.3 ∙ sym s.0),
      eq-eqb (length G.firsts_a % 4096) 0 whole,
    )

-- ---- one call

module _ (from : ℕ) (G : Grids) (before after : List ℕ) (a : Comparison) (r : CompareRule from G before after a) where
  one-long : a.number ≡ 0 → T (one_length (length G.firsts_a) (length G.seconds_a) (length G.firsts_b) (length G.seconds_b))
  one-long z = (compared-lengths (length G.firsts_a) (length G.seconds_a) (length G.firsts_b) (length G.seconds_b) (sym r.number ∙ z)).0

  compares : (a.number ≡ 0) ↔ ((n : ℕ) × Symbols G n)
  compares = (to, from')
    where
      to : a.number ≡ 0 → (n : ℕ) × Symbols G n
      to z =
          let t = compared-lengths (length G.firsts_a) (length G.seconds_a) (length G.firsts_b) (length G.seconds_b) (sym r.number ∙ z) in
          let e = one-length (length G.firsts_a) (length G.seconds_a) (length G.firsts_b) (length G.seconds_b) t.0 in
          let whole : length G.firsts_a ≡ 4096 * (length G.firsts_a / 4096) = omega (arith, t.1) in
          (length G.firsts_a / 4096, (whole, e.0 ∙ whole, e.1 ∙ whole, e.2 ∙ whole))

      from' : ((n : ℕ) × Symbols G n) → a.number ≡ 0
      from' s = r.number ∙ symbols-number G s.0 s.1

  same : a.number ≡ 0 → (a.count ≡ 0) ↔ ((G.firsts_a ≡ G.firsts_b) × (G.seconds_a ≡ G.seconds_b))
  same z = subst (λ (n : ℕ). (n ≡ 0) ↔ ((G.firsts_a ≡ G.firsts_b) × (G.seconds_a ≡ G.seconds_b))) (sym (r.compared z).0) (same-grids G (one-long z))

  as_long : length after ≡ length before
  as_long = go (ℕ_discrete a.number 0)
    where
      go : Dec (a.number ≡ 0) → length after ≡ length before
      go (yes z) = ap length (r.compared z).1 ∙ filled-long (difference from G) (λ i. refl) (differing G) before
      go (no n) = ap length (r.refused n).1

  listed : (k j : ℕ) → a.number ≡ 0 → k < a.count → 6 * k + 6 ≤ length before → j < 6
      → row after (6 * k + j) ≡ row (difference from G (row (differing G) k)) j
  listed k j z lt fits small =
      ap (λ (l : List ℕ). row l (6 * k + j)) (r.compared z).1
      ∙ filled_at (difference from G) (λ i. refl) (differing G) before k j (subst (λ (n : ℕ). k < n) (r.compared z).0 lt) fits small

  behind : (j : ℕ) → (6 * a.count ≤ j) ⊎ (length before < 6 * (j / 6) + 6) → row after j ≡ row before j
  behind j past = go (ℕ_discrete a.number 0)
    where
      go : Dec (a.number ≡ 0) → row after j ≡ row before j
      go (yes z) =
          ap (λ (l : List ℕ). row l j) (r.compared z).1
          ∙ filled-behind (difference from G) (λ i. refl) (differing G) before j
          (subst (λ (n : ℕ). (6 * n ≤ j) ⊎ (length before < 6 * (j / 6) + 6)) (r.compared z).0 past)
      go (no n) = ap (λ (l : List ℕ). row l j) (r.refused n).1

one_comparison : (from : ℕ) (G : Grids) (before after after' : List ℕ) (a b : Comparison)
    → CompareRule from G before after a
    → CompareRule from G before after' b
    → (a ≡ b) × (after ≡ after')
one_comparison from G before after after' a b x y = go (ℕ_discrete a.number 0)
  where
    number : a.number ≡ b.number
    number = x.number ∙ sym y.number

    answer : a.count ≡ b.count → a ≡ b
    answer c = ap₂ (λ (n m : ℕ). record { number = n; count = m }) number c

    go : Dec (a.number ≡ 0) → (a ≡ b) × (after ≡ after')
    go (yes z) =
        let p = x.compared z in
        let q = y.compared (sym number ∙ z) in
        (answer (p.0 ∙ sym q.0), p.1 ∙ sym q.1)
    go (no n) =
        let p = x.refused n in
        let q = y.refused (λ z. n (number ∙ z)) in
        (answer (p.0 ∙ sym q.0), p.1 ∙ sym q.1)

-- ---- symbol by symbol

-- n symbols of a list have symbol y, and its cells are these
module _ (l : List ℕ) (n y : ℕ) (long : length l ≡ 4096 * n) (lt : y < n) where
  alone-long : length (take 4096 (drop (4096 * y) l)) ≡ 4096
  alone-long = length-take-le 4096 (drop (4096 * y) l) (omega (arith, length-drop (4096 * y) l))

  alone-row : (i : ℕ) → i < 4096 → row (take 4096 (drop (4096 * y) l)) i ≡ row l (4096 * y + i)
  alone-row i small = get_or-take 4096 (drop (4096 * y) l) i 0 small ∙ get_or-drop (4096 * y) l i 0

module _ (G : Grids) (n : ℕ) (s : Symbols G n) where
  module _ (y : ℕ) (lt : y < n) where
    alone-symbols : Symbols (symbol_alone G y) 1
    alone-symbols = (
      alone-long G.firsts_a n y s.0 lt,
      alone-long G.seconds_a n y s.1 lt,
      alone-long G.firsts_b n y s.2 lt,
      alone-long G.seconds_b n y s.3 lt,
    )

    module _ (i : ℕ) (small : i < 4096) where
      fa : row (symbol_alone G y).firsts_a i ≡ row G.firsts_a (4096 * y + i)
      fa = alone-row G.firsts_a n y s.0 lt i small

      sa : row (symbol_alone G y).seconds_a i ≡ row G.seconds_a (4096 * y + i)
      sa = alone-row G.seconds_a n y s.1 lt i small

      fb : row (symbol_alone G y).firsts_b i ≡ row G.firsts_b (4096 * y + i)
      fb = alone-row G.firsts_b n y s.2 lt i small

      sb : row (symbol_alone G y).seconds_b i ≡ row G.seconds_b (4096 * y + i)
      sb = alone-row G.seconds_b n y s.3 lt i small

      alone-differs : differs G (4096 * y + i) ≡ differs (symbol_alone G y) i
      alone-differs = sym (ap₂ (λ (b c : Bool). not (b && c)) (ap₂ eqb fa fb) (ap₂ eqb sa sb))

      alone-said : (from : ℕ) → difference from G (4096 * y + i) ≡ difference (from + y) (symbol_alone G y) i
      alone-said from =
          let symbol : from + (4096 * y + i) / 4096 ≡ from + y + i / 4096 = omega arith in
          let cell : (4096 * y + i) % 4096 ≡ i % 4096 = omega arith in
          rw (symbol, cell, fa, sa, fb, sb)

    -- the cells of symbol y that differ, counted through the grids and in the symbol
    alone-passing : passing 4096 (4096 * y) (differs G) ≡ map (λ i. 4096 * y + i) (differing (symbol_alone G y))
    unfolding differing
    alone-passing =
        let zero_more : 4096 * y ≡ 4096 * y + 0 = omega arith in
        ap (λ (k : ℕ). passing 4096 k (differs G)) zero_more
        ∙ passing-shift 4096 0 (4096 * y) (differs G)
        ∙ ap (map (λ i. 4096 * y + i))
        (passing-same 4096 0 (λ i. differs G (4096 * y + i)) (differs (symbol_alone G y)) (λ i le l. alone-differs i (omega (arith, l)))
        ∙ ap (λ (m : ℕ). passing m 0 (differs (symbol_alone G y))) (sym alone-symbols.0))

    alone-flat : (from : ℕ)
        → flat (difference from G) (passing 4096 (4096 * y) (differs G)) ≡ flat (difference (from + y) (symbol_alone G y)) (differing (symbol_alone G y))
    alone-flat from =
        ap (flat (difference from G)) alone-passing
        ∙ flat-renumbered (difference from G) (difference (from + y) (symbol_alone G y)) (λ i. 4096 * y + i) (differing (symbol_alone G y))
        (λ k l. alone-said (row (differing (symbol_alone G y)) k) (omega (arith, (each_differs (symbol_alone G y) k l).0, alone-symbols.0)) from)

    alone-count : length (passing 4096 (4096 * y) (differs G)) ≡ length (differing (symbol_alone G y))
    alone-count = ap length alone-passing ∙ map-long (λ i. 4096 * y + i) (differing (symbol_alone G y))

    alone-few : length (differing (symbol_alone G y)) ≤ 4096
    alone-few = omega (arith, differing-few (symbol_alone G y), alone-symbols.0)

  -- the first m symbols
  firstly : (m : ℕ) → passing (4096 * suc m) 0 (differs G) ≡ passing (4096 * m) 0 (differs G) ++ passing 4096 (4096 * m) (differs G)
  firstly m =
      let more : 4096 * suc m ≡ 4096 * m + 4096 = omega arith in
      let at : 0 + 4096 * m ≡ 4096 * m = omega arith in
      ap (λ (k : ℕ). passing k 0 (differs G)) more
      ∙ passing-parts (4096 * m) 4096 0 (differs G)
      ∙ ap (λ (k : ℕ). passing (4096 * m) 0 (differs G) ++ passing 4096 k (differs G)) at

  in-turn-flat : (from m : ℕ) → m ≤ n
      → flat (difference from G) (passing (4096 * m) 0 (differs G))
      ≡ in_turn m (λ y. flat (difference (from + y) (symbol_alone G y)) (differing (symbol_alone G y)))
  in-turn-flat from zero le = let none : 4096 * 0 ≡ 0 = omega arith in ap (λ (k : ℕ). flat (difference from G) (passing k 0 (differs G))) none
  in-turn-flat from (suc m) le =
      ap (flat (difference from G)) (firstly m)
      ∙ flat-parts (difference from G) (passing (4096 * m) 0 (differs G)) (passing 4096 (4096 * m) (differs G))
      ∙ ap₂ ◌++◌ (in-turn-flat from m (omega arith)) (alone-flat m (omega arith) from)

  in-turn-count : (m : ℕ) → m ≤ n → length (passing (4096 * m) 0 (differs G)) ≡ total m (λ y. length (differing (symbol_alone G y)))
  in-turn-count zero le = let none : 4096 * 0 ≡ 0 = omega arith in ap (λ (k : ℕ). length (passing k 0 (differs G))) none
  in-turn-count (suc m) le =
      ap length (firstly m)
      ∙ length-append (passing (4096 * m) 0 (differs G)) (passing 4096 (4096 * m) (differs G))
      ∙ ap₂ ◌+◌ (in-turn-count m (omega arith)) (alone-count m (omega arith))

  -- all of them
  whole-flat : (from : ℕ)
      → flat (difference from G) (differing G) ≡ in_turn n (λ y. flat (difference (from + y) (symbol_alone G y)) (differing (symbol_alone G y)))
  unfolding differing
  whole-flat from = ap (λ (k : ℕ). flat (difference from G) (passing k 0 (differs G))) s.0 ∙ in-turn-flat from n (omega arith)

  whole-count : length (differing G) ≡ total n (λ y. length (differing (symbol_alone G y)))
  unfolding differing
  whole-count = ap (λ (k : ℕ). length (passing k 0 (differs G))) s.0 ∙ in-turn-count n (omega arith)

in-turn-same : (n : ℕ) (f g : ℕ → List ℕ) → ((y : ℕ) → y < n → f y ≡ g y) → in_turn n f ≡ in_turn n g
in-turn-same zero f g same = refl
in-turn-same (suc n) f g same = ap₂ ◌++◌ (in-turn-same n f g (λ y lt. same y (omega (arith, lt)))) (same n (omega arith))

total-same : (n : ℕ) (f g : ℕ → ℕ) → ((y : ℕ) → y < n → f y ≡ g y) → total n f ≡ total n g
total-same zero f g same = refl
total-same (suc n) f g same = ap₂ ◌+◌ (total-same n f g (λ y lt. same y (omega (arith, lt)))) (same n (omega arith))

-- where all differences fit, the list begins with them
all_listed : (from : ℕ) (G : Grids) (before after : List ℕ) (a : Comparison)
    → CompareRule from G before after a
    → a.number ≡ 0
    → 6 * length (differing G) ≤ length before
    → take (6 * a.count) after ≡ flat (difference from G) (differing G)
all_listed from G before after a r z fits =
    ap₂ (λ (c : ℕ) (l : List ℕ). take (6 * c) l) (r.compared z).0 (r.compared z).1
    ∙ filled-all (difference from G) (λ i. refl) (differing G) before fits

symbol_by_symbol : (from n : ℕ) (G : Grids) (before after : List ℕ) (a : Comparison) (answers : ℕ → Comparison) (rooms lists : ℕ → List ℕ)
    → Symbols G n
    → CompareRule from G before after a
    → ((y : ℕ) → y < n → (6 * 4096 ≤ length (rooms y)) × CompareRule (from + y) (symbol_alone G y) (rooms y) (lists y) (answers y))
    → ((y : ℕ) → y < n → (answers y).number ≡ 0)
    × (a.count ≡ total n (λ y. (answers y).count))
    × (6 * a.count ≤ length before → take (6 * a.count) after ≡ in_turn n (λ y. take (6 * (answers y).count) (lists y)))
symbol_by_symbol from n G before after a answers rooms lists s r each = (done, counted, listed')
  where
    z : a.number ≡ 0
    z = r.number ∙ symbols-number G n s

    done : (y : ℕ) → y < n → (answers y).number ≡ 0
    done y lt = (each y lt).1.number ∙ symbols-number (symbol_alone G y) 1 (alone-symbols G n s y lt)

    counted : a.count ≡ total n (λ y. (answers y).count)
    counted =
        (r.compared z).0 ∙ whole-count G n s
        ∙ total-same n (λ y. length (differing (symbol_alone G y))) (λ y. (answers y).count) (λ y lt. sym ((each y lt).1.compared (done y lt)).0)

    listed' : 6 * a.count ≤ length before → take (6 * a.count) after ≡ in_turn n (λ y. take (6 * (answers y).count) (lists y))
    listed' fits =
        all_listed from G before after a r z (subst (λ (c : ℕ). 6 * c ≤ length before) (r.compared z).0 fits)
        ∙ whole-flat G n s from
        ∙ in-turn-same n (λ y. flat (difference (from + y) (symbol_alone G y)) (differing (symbol_alone G y))) (λ y. take (6 * (answers y).count) (lists y))
        (λ y lt. sym (all_listed (from + y) (symbol_alone G y) (rooms y) (lists y) (answers y) (each y lt).1 (done y lt)
        (omega (arith, alone-few G n s y lt, (each y lt).0))))

pub side_by_side : SideBySide
side_by_side =
    record {
      compares = compares;
      same = same;
      each_differs = each_differs;
      rising = rising;
      none_left_out = none_left_out;
      as_long = as_long;
      listed = λ from G before after a k j r. listed from G before after a r k j;
      behind = λ from G before after a j r. behind from G before after a r j;
      one_comparison = one_comparison;
      symbol_by_symbol = symbol_by_symbol;
    }

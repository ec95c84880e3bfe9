-- Document 02, Req 05: two grids side by side, each as two lists of f32 bit patterns, numbers of 32 bits. Patterns are compared and not parts: +0.0 and
-- -0.0 differ, and a NaN equals only the same bits.
use Rattle.std.specs.Prelude.{◌≡◌, Result, Ok, Err, Bool, not, ◌&&◌, List, [], ◌∷◌, ◌++◌, map, ℕ, zero, suc, ◌+◌, ◌*◌, ◌/◌, ◌%◌, ◌^◌, eqb, ltb, length, take, drop}
use Rattle.rules.specs.Bits.{pick, row, passing}
use Rattle.rules.specs.declared.Refusal.{Refusal}
use Rattle.rules.specs.Answers.{refusal_number}

-- first and second parts of the one grid, and of the other
pub record Grids : Type 0 where
  pub firsts_a : List ℕ
  pub seconds_a : List ℕ
  pub firsts_b : List ℕ
  pub seconds_b : List ℕ

abbrev pub grids : List ℕ → List ℕ → List ℕ → List ℕ → Grids
grids fa sa fb sb = record { firsts_a = fa; seconds_a = sa; firsts_b = fb; seconds_b = sb }

-- cell i, counted through the grids, differs: a part has other bits
abbrev pub differs : Grids → ℕ → Bool
differs G i = not (eqb (row G.firsts_a i) (row G.firsts_b i) && eqb (row G.seconds_a i) (row G.seconds_b i))

-- the cells that differ, in rising order
unfoldable pub differing : Grids → List ℕ
differing G = passing (length G.firsts_a) 0 (differs G)

-- What is said of cell i: symbol, cell, first and second part of the one, first and second part of the other, each in 32 bits. The grids begin with
-- the given symbol; a whole grid with symbol 0.
abbrev pub difference : ℕ → Grids → ℕ → List ℕ
difference from G i =
    (from + i / 4096) % 2 ^ 32 ∷ i % 4096 ∷ row G.firsts_a i ∷ row G.seconds_a i ∷ row G.firsts_b i ∷ row G.seconds_b i ∷ []

abbrev pub differences : ℕ → Grids → List (List ℕ)
differences from G = map (difference from G) (differing G)

-- what a lent list then holds: the first differences that fit whole, and behind them what it held
unfoldable pub filled : List (List ℕ) → List ℕ → List ℕ
filled [] held = held
filled (d ∷ ds) held = pick (ltb (length held) 6) held (d ++ filled ds (drop 6 held))

-- the lengths of the four lists are all the same
abbrev pub one_length : ℕ → ℕ → ℕ → ℕ → Bool
one_length fa sa fb sb = eqb sa fa && (eqb fb fa && eqb sb fa)

-- 18 where they are not, 7 where they are not whole symbols, the first that fits; else 0
unfoldable pub comparing_number : ℕ → ℕ → ℕ → ℕ → ℕ
comparing_number fa sa fb sb = pick (not (one_length fa sa fb sb)) 18 (pick (not (eqb (fa % 4096) 0)) 7 0)

-- what comparing answers: how many cells differ, zero at every number but 0
pub record Comparison : Type 0 where
  pub number : ℕ
  pub count : ℕ

abbrev pub comparison_of : Result ℕ Refusal → Comparison
comparison_of (Ok count) = record { number = 0; count = count }
comparison_of (Err e) = record { number = refusal_number e; count = 0 }

-- the answer, and what the lent list then holds
pub record CompareRule (from : ℕ) (G : Grids) (before after : List ℕ) (a : Comparison) : Type 0 where
  pub number : a.number ≡ comparing_number (length G.firsts_a) (length G.seconds_a) (length G.firsts_b) (length G.seconds_b)
  pub compared : a.number ≡ 0 → (a.count ≡ length (differing G)) × (after ≡ filled (differences from G) before)
  pub refused : ¬ (a.number ≡ 0) → (a.count ≡ 0) × (after ≡ before)

-- ---- symbol by symbol

-- symbol y alone
abbrev pub symbol_alone : Grids → ℕ → Grids
symbol_alone G y =
    record {
      firsts_a = take 4096 (drop (4096 * y) G.firsts_a);
      seconds_a = take 4096 (drop (4096 * y) G.seconds_a);
      firsts_b = take 4096 (drop (4096 * y) G.firsts_b);
      seconds_b = take 4096 (drop (4096 * y) G.seconds_b);
    }

-- n lists one after the other
abbrev pub in_turn : ℕ → (ℕ → List ℕ) → List ℕ
in_turn zero f = []
in_turn (suc n) f = in_turn n f ++ f n

-- n numbers together
abbrev pub total : ℕ → (ℕ → ℕ) → ℕ
total zero f = 0
total (suc n) f = total n f + f n

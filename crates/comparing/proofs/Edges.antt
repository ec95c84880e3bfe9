-- What is promised of two grids at the ends of its bounds, by numbers written out here: a promise with a narrower bound would not give these.
use mathlib.Core.Path.{◌≡◌, subst}
use mathlib.Core.List.{List}
use mathlib.Core.Logic.{inl, inr}
use Prim.Native.Nat.{ℕ, ◌*◌, ◌<◌}
use native.Mathlib.Omega.{arith}
use lib.Dec.{T, lit<}
use lib.ListN.{length, take}
use Rattle.rules.specs.Bits.{row}
use Rattle.rules.specs.Compare.{Grids, differs, differing, difference, CompareRule, symbol_alone, in_turn}
use Rattle.rules.specs.Demands.{Symbols}
use Rattle.rules.specs.Compare.{Comparison}
use Rattle.comparing.proofs.SideBySide.{side_by_side}

module _ (G : Grids) (before after : List ℕ) (a : Comparison) (r : CompareRule 0 G before after a) where
  -- a list of twelve numbers has the second difference, to its last number; in one of eleven what lies behind the first is as it was
  pub exact-room : a.number ≡ 0 → 1 < a.count → length before ≡ 12 → row after 11 ≡ row (difference 0 G (row (differing G) 1)) 5
  exact-room z lt e = side_by_side.listed 0 G before after a 1 5 r z lt (omega (arith, e)) (lit< tt)

  pub one-short : length before ≡ 11 → row after 6 ≡ row before 6
  one-short e = side_by_side.behind 0 G before after a 6 r (inr (omega (arith, e)))

  -- so it is behind the last difference
  pub behind-the-last : a.count ≡ 1 → row after 6 ≡ row before 6
  behind-the-last e = side_by_side.behind 0 G before after a 6 r (inl (omega (arith, e)))

  -- two symbols one after the other, in lists that hold just what they can need
  pub two-symbols : (answers : ℕ → Comparison) (rooms lists : ℕ → List ℕ)
      → Symbols G 2
      → ((y : ℕ) → y < 2 → (length (rooms y) ≡ 24576) × CompareRule y (symbol_alone G y) (rooms y) (lists y) (answers y))
      → length before ≡ 6 * a.count
      → take (6 * a.count) after ≡ in_turn 2 (λ y. take (6 * (answers y).count) (lists y))
  two-symbols answers rooms lists s each e =
      (side_by_side.symbol_by_symbol 0 2 G before after a answers rooms lists s r
      (λ y lt. (omega (arith, (each y lt).0), subst (λ (f : ℕ). CompareRule f (symbol_alone G y) (rooms y) (lists y) (answers y)) (omega arith) (each y lt).1))
      ).2 (omega (arith, e))

-- the last cell of seven symbols is looked at
pub last-cell : (G : Grids) → Symbols G 7 → T (differs G 28671) → (k : ℕ) × (k < length (differing G)) × (row (differing G) k ≡ 28671)
last-cell G s t = side_by_side.none_left_out G 28671 (omega (arith, s.0)) t

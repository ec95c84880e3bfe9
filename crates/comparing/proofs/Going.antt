-- The differences of two grids go into the lent list: what holds before cell i is looked at.
use mathlib.Core.Path.{◌≡◌, refl, sym, ◌∙◌, ap, ap₂, subst}
use mathlib.Core.Bool.{true, false}
use mathlib.Core.List.{List, [], ◌∷◌, map}
use Prim.Native.Nat.{ℕ, ◌+◌, ◌<◌, ◌≤◌}
use native.Mathlib.Nat.{sub-zero}
use native.Mathlib.Omega.{arith}
use lib.ListN.{length}
use Rattle.rules.specs.Bits.{passing}
use Rattle.rules.specs.Compare.{Grids, differs, differing, difference, differences, filled}
use Rattle.comparing.specs.Listing.{to_go, Gone, place}
use Rattle.comparing.proofs.Filling.{nothing-to-go}
use Rattle.comparing.proofs.Passing.{passing_from, next-passes, next-fails, passing-end}

-- the cells from i on that differ
abbrev pub ahead : Grids → ℕ → List ℕ
ahead G i = passing_from (length G.firsts_a) i (differs G)

pub record Going (from : ℕ) (G : Grids) (list₀ list : List ℕ) (count i : ℕ) : Type 0 where
  pub long : length list ≡ length list₀
  pub few : count ≤ i
  pub counted : count + length (ahead G i) ≡ length (differing G)
  pub goes : filled (differences from G) list₀ ≡ to_go (map (difference from G) (ahead G i)) (place (length list₀) count) list

module _ {from : ℕ} {G : Grids} {list₀ : List ℕ} where
  pub going_start : Going from G list₀ list₀ 0 0
  unfolding differing
  going_start =
      let all : ahead G 0 ≡ differing G = ap (λ (m : ℕ). passing m 0 (differs G)) (sub-zero (length G.firsts_a)) in
      let at : 0 ≡ place (length list₀) 0 = omega arith in
      record {
        long = refl;
        few = omega arith;
        counted = omega (arith, ap length all);
        goes = ap₂ (λ (l : List ℕ) (p : ℕ). to_go (map (difference from G) l) p list₀) (sym all) at;
      }

  -- a cell that is the same in both
  pub going-same : {list : List ℕ} {count i : ℕ} → Going from G list₀ list count i → i < length G.firsts_a → differs G i ≡ false
      → Going from G list₀ list count (i + 1)
  going-same {list} {count} {i} g lt same =
      let e : ahead G i ≡ ahead G (i + 1) = next-fails (length G.firsts_a) i (differs G) lt same in
      record {
        long = g.long;
        few = omega (arith, g.few);
        counted = ap (λ (l : List ℕ). count + length l) (sym e) ∙ g.counted;
        goes = g.goes ∙ ap (λ (l : List ℕ). to_go (map (difference from G) l) (place (length list₀) count) list) e;
      }

  -- one that differs, and went in where it fits
  pub going_next : {list : List ℕ} {count i : ℕ} {list' : List ℕ} → Going from G list₀ list count i → i < length G.firsts_a
      → differs G i ≡ true → Gone list (place (length list) count) (difference from G i) list' (place (length list) (count + 1))
      → Going from G list₀ list' (count + 1) (i + 1)
  going_next {list} {count} {i} {list'} g lt other gone =
      let e : ahead G i ≡ i ∷ ahead G (i + 1) = next-passes (length G.firsts_a) i (differs G) lt other in
      record {
        long = gone.long ∙ g.long;
        few = omega (arith, g.few);
        counted = omega (arith, g.counted, ap length e);
        goes =
            g.goes ∙ ap (λ (l : List ℕ). to_go (map (difference from G) l) (place (length list₀) count) list) e
            ∙ subst (λ (n : ℕ). to_go (map (difference from G) (i ∷ ahead G (i + 1))) (place n count) list ≡ to_go (map (difference from G) (ahead G (i + 1))) (place n (count + 1)) list')
            g.long (gone.same (map (difference from G) (ahead G (i + 1))));
      }

  pub going_end : {list : List ℕ} {count i : ℕ} → Going from G list₀ list count i → ¬ (i < length G.firsts_a)
      → (count ≡ length (differing G)) × (list ≡ filled (differences from G) list₀)
  going_end {list} {count} {i} g end =
      let at : ℕ = place (length list₀) count in
      let e : ahead G i ≡ [] = passing-end (length G.firsts_a) i (differs G) end in
      (omega (arith, g.counted, ap length e), sym (g.goes ∙ ap (λ (l : List ℕ). to_go (map (difference from G) l) at list) e ∙ nothing-to-go at list))

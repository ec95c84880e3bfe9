-- The parts that the bits make at a level, as lists: how they come about, and the part that two bits make.
use mathlib.Core.Path.{◌≡◌, refl, sym, subst, ◌∙◌, ap}
use mathlib.Core.Bool.{Bool, true, false}
use mathlib.Core.List.{List, [], ◌∷◌}
use Prim.Native.Nat.{ℕ, zero, suc, ◌+◌, ◌*◌, ◌/◌, ◌%◌, ◌<◌}
use native.Mathlib.Omega.{arith}
use lib.Dec.{eqb}
use lib.Ieee.{Float, nan, neg}
use lib.ListN.{get_or, set, replicate, length-replicate, get_or-replicate}
use Rattle.rules.specs.Bits.{pick}
use Rattle.rules.specs.Points.{signed, sized, triple, part, point_of, zero_part}
use Rattle.laws.specs.Holds.{holds_put}
use Rattle.laws.specs.Lists.{any-default}
use borrow.Author.Tests.{ne_eqb}
use Rattle.cells.specs.Symbol.{Signed, Sized}

-- ---- one bit a part

pub signed-new : (level : Float) → Signed level (set (replicate 256 level) 1 (neg level))
signed-new level =
    holds_put zero_part {l = replicate 256 level} 1 (neg level) (omega arith)
    (record { long = length-replicate 256 level; each = λ k lt. get_or-replicate 256 k level zero_part lt })

-- ---- two bits a part

pub sized_new : (level : Float) → Sized level (triple level ∷ neg (triple level) ∷ level ∷ neg level ∷ [])
sized_new level = record { long = refl; each = each }
  where
    each : (k : ℕ) → k < 4 → get_or (triple level ∷ neg (triple level) ∷ level ∷ neg level ∷ []) k zero_part ≡ signed (k % 2) (sized (k / 2) level)
    each zero h = refl
    each (suc zero) h = refl
    each (suc (suc zero)) h = refl
    each (suc (suc (suc zero))) h = refl
    each (suc (suc (suc (suc k)))) h = absurd (omega arith)

module _ (level : Float) {l : List Float} (h : Sized level l) where
  pub sized-part : (w : ℕ) (s : ℕ → ℕ) (k : ℕ) → ¬ (w ≡ 1) → k ≡ 2 * pick (eqb (s 0) 1) 1 0 + pick (eqb (s 1) 1) 1 0 → k < 4
      → get_or l k nan ≡ part w level s
  sized-part w s k ne e lt =
      rw (ne_eqb w 1 ne)
      (any-default l k nan zero_part (subst (λ (n : ℕ). k < n) (sym h.long) lt) ∙ h.each k lt
      ∙ ap (λ (n : ℕ). signed (n % 2) (sized (n / 2) level)) e ∙ go (eqb (s 0) 1) (eqb (s 1) 1))
    where
      go : (a b : Bool) → (let n = 2 * pick a 1 0 + pick b 1 0 in signed (n % 2) (sized (n / 2) level))
          ≡ pick b (neg (pick a level (triple level))) (pick a level (triple level))
      go true true = refl
      go true false = refl
      go false true = refl
      go false false = refl

-- ---- the point of some bits

module _ (w : ℕ) (level : Float) (s : ℕ → ℕ) where
  pub point-same : (s' : ℕ → ℕ) → ((j : ℕ) → s j ≡ s' j) → point_of w level s ≡ point_of w level s'
  point-same s' h = λ i. point_of w level (λ j. h j i)

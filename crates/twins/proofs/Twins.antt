-- The first twin of a slot, found from its symbol's first slot on, and the first slot that repeats an earlier one.
use mathlib.Core.Path.{◌≡◌, ap, ◌∙◌}
use mathlib.Core.Bool.{Bool, true, false, ◌&&◌}
use mathlib.Core.List.{List}
use Prim.Native.Nat.{ℕ, ◌-◌, ◌%◌, ◌<◌, ◌≤◌}
use native.Mathlib.Omega.{arith}
use borrow.Author.Tests.{eq-eqb, ne_eqb, lt-ltb}
use Rattle.rules.specs.Profile.{alike, are_twins, earliest, repeats, first_repeat}
use Rattle.rules.specs.Slots.{symbol_of}
use Rattle.laws.specs.First.{first-is}

module _ (masks seeds : List ℕ) where
  -- ---- turn by turn: u is of t's symbol, and no slot before it is t's twin

  pub record Looking (t u : ℕ) : Type 0 where
    pub here : symbol_of u ≡ symbol_of t
    pub within : u ≤ t
    pub none : (i : ℕ) → i < u → are_twins masks seeds i t ≡ false

  -- slots of earlier symbols are no twins of it
  pub look_start : (t : ℕ) → Looking t (t - t % 7)
  look_start t =
      record {
        here = omega arith;
        within = omega arith;
        none = λ i lt. ap (λ (b : Bool). b && alike masks seeds i t) (ne_eqb (symbol_of i) (symbol_of t) (λ e. omega arith));
      }

  module _ {t u : ℕ} (h : Looking t u) where
    as-alike : are_twins masks seeds u t ≡ alike masks seeds u t
    as-alike = ap (λ (b : Bool). b && alike masks seeds u t) (eq-eqb (symbol_of u) (symbol_of t) h.here)

    pub look_found : (u < t → alike masks seeds u t ≡ true) → u ≡ earliest masks seeds t
    look_found like = first-is (record { within = h.within; before = h.none; passes = λ lt. as-alike ∙ like lt })

  -- ---- slot by slot: no slot before t repeats an earlier one

  pub record Searching (n t : ℕ) : Type 0 where
    pub within : t ≤ n
    pub none : (i : ℕ) → i < t → repeats masks seeds i ≡ false

  module _ {n t : ℕ} (h : Searching n t) where
    pub search_found : (t < n → earliest masks seeds t < t) → t ≡ first_repeat n masks seeds
    unfolding first_repeat
    search_found found =
        first-is (record { within = h.within; before = h.none; passes = λ lt. lt-ltb (earliest masks seeds t) t (found lt) })

-- How many numbers of a list are in their ranges before the first that isn't: along a loop, and in one list after another.
use mathlib.Core.Path.{◌≡◌, refl, sym, ap, ◌∙◌, fun_ext}
use mathlib.Core.Bool.{Bool, true, false}
use mathlib.Core.List.{List, [], ◌∷◌, ◌++◌}
use Prim.Native.Nat.{ℕ, suc, ◌+◌, ◌-◌, ◌<◌, ◌≤◌}
use native.Mathlib.Decide.{ℕ_discrete}
use native.Mathlib.Omega.{arith}
use borrow.Author.Tests.{eq-eqb, ne_eqb, lt-ltb, le-ltb, le-leb}
use lib.Dec.{eqb, eqb-suc-suc, eqb-zero-suc}
use lib.ListN.{length, take, drop, length-drop}
use lib.Seq.{length-take-le, take_all}
use Rattle.rules.specs.Bits.{pick}
use Rattle.rules.specs.Profile.{Tested, each, in20}
use Rattle.rules.specs.Modes.{slots}
use Rattle.ranges.specs.Ranges.{between, passed}
use Rattle.std.specs.List.{prefix_len, take_while}
use Rattle.std.proofs.Common.{cond}
use Rattle.std.proofs.lemmas.List.Folds.{length-prefix_len}

-- ---- how many stand at the front that are

front : (f : ℕ → Bool) (l : List ℕ) → (prefix_len f l ≡ passed (each 4 f l)) × (prefix_len f l ≤ length l)
front f [] = (refl, omega arith)
front f (x ∷ l) = go (f x) (front f l)
  where
    go : (b : Bool)
        → (prefix_len f l ≡ passed (each 4 f l)) × (prefix_len f l ≤ length l)
        → (let n : ℕ = cond b (1 + prefix_len f l) 0 in (n ≡ pick b (suc (passed (each 4 f l))) 0) × (n ≤ suc (length l)))
    go true h = (omega (arith, h.0), omega (arith, h.1))
    go false h = (refl, omega arith)

pub taken-passed : (f : ℕ → Bool) (l : List ℕ) {n : ℕ} → n ≡ length (take_while f l) → (n ≡ passed (each 4 f l)) × (n ≤ length l)
taken-passed f l e =
    let w = e ∙ length-prefix_len f l in
    let h = front f l in
    (w ∙ h.0, omega (arith, w, h.1))

-- only zero is below 1
zeros : between 0 1 ≡ eqb 0
zeros = fun_ext (λ x. go x (ℕ_discrete 0 x))
  where
    go : (x : ℕ) → Dec (0 ≡ x) → between 0 1 x ≡ eqb 0 x
    go x (yes e) = rw (le-leb 0 x (omega arith), lt-ltb x 1 (omega arith), eq-eqb 0 x e)
    go x (no ne) = rw (le-leb 0 x (omega arith), le-ltb x 1 (omega arith), ne_eqb 0 x ne)

-- ---- one list after another

pub each-length : (size : ℕ) (f : ℕ → Bool) (l : List ℕ) → length (each size f l) ≡ length l
each-length size f [] = refl
each-length size f (x ∷ l) = ap suc (each-length size f l)

passed-both : (xs ys : List Tested) → passed (xs ++ ys) ≡ pick (eqb (passed xs) (length xs)) (length xs + passed ys) (passed xs)
passed-both [] ys = omega arith
passed-both (x ∷ xs) ys = go x.good (passed-both xs ys)
  where
    go : (b : Bool)
        → passed (xs ++ ys) ≡ pick (eqb (passed xs) (length xs)) (length xs + passed ys) (passed xs)
        → pick b (suc (passed (xs ++ ys))) 0
        ≡ (let p : ℕ = pick b (suc (passed xs)) 0 in pick (eqb p (suc (length xs))) (suc (length xs) + passed ys) p)
    go true h = ap suc h ∙ rw (eqb-suc-suc (passed xs) (length xs)) (within (eqb (passed xs) (length xs)))
      where
        within : (c : Bool) → suc (pick c (length xs + passed ys) (passed xs)) ≡ pick c (suc (length xs) + passed ys) (suc (passed xs))
        within true = omega arith
        within false = refl
    go false h = rw (eqb-zero-suc (length xs))

-- ---- the seeds of a mode with N slots: those in use, and those after them

module _ (m N : ℕ) (l : List ℕ) (e : N ≡ slots m) (h : length l ≡ 48) (most : N ≤ 48) where
  abbrev used : ℕ
  used = passed (each 4 in20 (take N l))

  abbrev both : ℕ
  both = passed (each 4 in20 (take (slots m) l) ++ each 4 (eqb 0) (drop (slots m) l))

  seeds : both ≡ pick (eqb used N) (N + passed (each 4 (eqb 0) (drop N l))) used
  seeds =
      rw (← e)
      (passed-both (each 4 in20 (take N l)) (each 4 (eqb 0) (drop N l))
      ∙ rw (each-length 4 in20 (take N l), length-take-le N l (omega arith)))

  pub used-passed : used < N → used ≡ both
  used-passed lt = sym (seeds ∙ rw (ne_eqb used N (omega arith)))

  pub unused-passed : used ≡ N → N + passed (each 4 (between 0 1) (take (48 - N) (drop N l))) ≡ both
  unused-passed u =
      let long : length (drop N l) ≡ 48 - N = length-drop N l ∙ omega arith in
      rw (take_all (48 - N) (drop N l) (omega arith), zeros) (sym (seeds ∙ rw (eq-eqb used N u)))

-- What a field finds at fault in the numbers of its value: nothing where all are in their ranges, and else the first that isn't.
use mathlib.Core.Path.{◌≡◌, refl, sym, ◌∙◌}
use mathlib.Core.Bool.{Bool, true, false, ◌&&◌}
use mathlib.Core.List.{List, [], ◌∷◌, ◌++◌}
use mathlib.Core.Logic.{◌⊎◌, inl, inr}
use Prim.Native.Nat.{ℕ, suc, ◌+◌, ◌*◌}
use native.Mathlib.Nat.{add-zero}
use native.Mathlib.Omega.{arith}
use lib.Dec.{T, eqb, eqb-suc-suc, eqb-zero-suc}
use lib.Ieee.Fits.{and_i, and_l, and_r}
use lib.ListN.{length, take, drop, length-append, take-append-drop}
use Rattle.rules.specs.Bits.{pick}
use Rattle.rules.specs.Profile.{Tested, each, faulty, in20, only}
use Rattle.rules.specs.Modes.{slots}
use Rattle.rules.specs.Answers.{Answer}
use Rattle.ranges.specs.Ranges.{passed}
use Rattle.ranges.proofs.Passed.{each-length}

-- ---- all numbers are in their ranges

abbrev pub all_good : List Tested → Bool
all_good [] = true
all_good (x ∷ xs) = x.good && all_good xs

pub good-apart : (xs ys : List Tested) → T (all_good (xs ++ ys)) → T (all_good xs) × T (all_good ys)
good-apart [] ys t = (tt, t)
good-apart (x ∷ xs) ys t =
    let r = good-apart xs ys (and_r x.good (all_good (xs ++ ys)) t) in
    (and_i x.good (all_good xs) (and_l x.good (all_good (xs ++ ys)) t) r.0, r.1)

-- then nothing is at fault, and else it has the number n
pub faulty-test : (n at : ℕ) (xs : List Tested)
    → ((all_good xs ≡ true) × (faulty n at xs ≡ only 0)) ⊎ ((all_good xs ≡ false) × ((faulty n at xs).number ≡ n))
faulty-test n at [] = inl (refl, refl)
faulty-test n at (x ∷ xs) = go x.good (faulty-test n (at + x.size) xs)
  where
    go : (b : Bool)
        → ((all_good xs ≡ true) × (faulty n (at + x.size) xs ≡ only 0)) ⊎ ((all_good xs ≡ false) × ((faulty n (at + x.size) xs).number ≡ n))
        → (let a = pick b (faulty n (at + x.size) xs) (record { number = n; place = at }) in
        ((b && all_good xs ≡ true) × (a ≡ only 0)) ⊎ ((b && all_good xs ≡ false) × (a.number ≡ n)))
    go true h = h
    go false h = inr (refl, refl)

-- ---- what is at fault in numbers of four bytes each, by how many stand before it

abbrev Four : List Tested → Type 0
Four [] = Unit {0}
Four (x ∷ xs) = (x.size ≡ 4) × Four xs

each-four : (f : ℕ → Bool) (l : List ℕ) → Four (each 4 f l)
each-four f [] = tt
each-four f (x ∷ l) = (refl, each-four f l)

four-both : (xs ys : List Tested) → Four xs → Four ys → Four (xs ++ ys)
four-both [] ys a b = b
four-both (x ∷ xs) ys a b = (a.0, four-both xs ys a.1 b)

-- the answer n where p numbers of N stand before the first faulty one
abbrev among : ℕ → ℕ → ℕ → ℕ → Answer
among n at p N = pick (eqb p N) (only 0) (record { number = n; place = at + 4 * p })

four-fault : (n at : ℕ) (xs : List Tested) → Four xs → faulty n at xs ≡ among n at (passed xs) (length xs)
four-fault n at [] h = refl
four-fault n at (x ∷ xs) h = rw h.0 (go x.good (four-fault n (at + 4) xs h.1))
  where
    next : at + 4 + 4 * passed xs ≡ at + 4 * suc (passed xs)
    next = omega arith

    go : (b : Bool)
        → faulty n (at + 4) xs ≡ among n (at + 4) (passed xs) (length xs)
        → pick b (faulty n (at + 4) xs) (record { number = n; place = at }) ≡ among n at (pick b (suc (passed xs)) 0) (suc (length xs))
    go true e = e ∙ rw (next, eqb-suc-suc (passed xs) (length xs))
    go false e = rw (eqb-zero-suc (length xs), add-zero at)

-- the masks, and the seeds of a mode: those in use, and those after them
module _ (n at p : ℕ) (l : List ℕ) where
  pub masks-fault : length l ≡ 8 → p ≡ passed (each 4 in20 l) → among n at p 8 ≡ faulty n at (each 4 in20 l)
  masks-fault long e = rw e (sym (four-fault n at (each 4 in20 l) (each-four in20 l) ∙ rw (each-length 4 in20 l, long)))

  pub seeds-fault : (m : ℕ)
      → length l ≡ 48
      → (let tested = each 4 in20 (take (slots m) l) ++ each 4 (eqb 0) (drop (slots m) l) in
      p ≡ passed tested → among n at p 48 ≡ faulty n at tested)
  seeds-fault m long e =
      let used = each 4 in20 (take (slots m) l) in
      let rest = each 4 (eqb 0) (drop (slots m) l) in
      let whole : length (used ++ rest) ≡ 48
      = length-append used rest
      ∙ rw (each-length 4 in20 (take (slots m) l), each-length 4 (eqb 0) (drop (slots m) l))
      (sym (length-append (take (slots m) l) (drop (slots m) l)) ∙ rw (take-append-drop (slots m) l) long) in
      rw e
      (sym (four-fault n at (used ++ rest) (four-both used rest (each-four in20 (take (slots m) l)) (each-four (eqb 0) (drop (slots m) l)))
      ∙ rw whole))

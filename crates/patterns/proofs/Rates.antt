-- The place of each bit that is sent at a rate: all that a rate has to pass is one computed test.
use mathlib.Core.Path.{◌≡◌, refl, sym, ap, ap₂, ◌∙◌}
use mathlib.Core.Bool.{Bool, ◌&&◌}
use mathlib.Core.List.{List}
use Prim.Native.Nat.{ℕ, suc, ◌+◌, ◌-◌, ◌*◌, ◌/◌, ◌%◌, ◌<◌, ◌≤◌}
use native.Mathlib.Nat.{div-add-mod', mod-lt, le-div_iff_mul-le, mul-le-mul_right}
use native.Mathlib.Decide.{dec_lt}
use native.Mathlib.Omega.{arith}
use lib.Dec.{T, eqb, ltb, ltb→lt, eqb→eq}
use lib.Ieee.Fits.{and_l, and_r}
use borrow.Author.Tests.{lt-ltb, le-ltb}
use lib.ListN.{length, get_or}
use Rattle.rules.specs.Bits.{every_below}
use Rattle.rules.specs.Turbo.{Sent, X, Y0, X', Y'0, at, period, pattern, tail, data_length, coded_length, data_place}
use Rattle.rules.specs.declared.Rate.{Rate}
use Rattle.rules.specs.declared.Rate.TheVariants.{Half, Third, TwoThirds}
use Rattle.laws.specs.Every.{every-at}
use Rattle.laws.specs.Filled.{pick-lt, pick-ge}
use Rattle.patterns.specs.Places.{place_from, place, place_by}

-- ---- the test of a rate

-- how far from its pattern's beginning an output is taken
abbrev pub further : Sent → ℕ
further (at o k) = k

abbrev pattern_length : Rate → ℕ
pattern_length R = length (pattern R)

abbrev in_pattern : Rate → ℕ → Sent
in_pattern R e = get_or (pattern R) e (at X 0)

abbrev in_tail : Rate → ℕ → Sent
in_tail R e = get_or (tail R) e (at X 0)

-- entry e of the pattern, where it comes for the last time, is taken from one of the 994 bits
abbrev data_fits : Rate → ℕ → Bool
data_fits R e = ltb ((data_length R 994 - suc e) / pattern_length R * period R + further (in_pattern R e)) 994

-- entry e of the tail is taken from one of three periods
abbrev tail_fits : Rate → ℕ → Bool
tail_fits R e = ltb (further (in_tail R e)) 3

-- bit i of x itself stands where it is said to
abbrev own_fits : Rate → ℕ → Bool
own_fits R i = ltb (data_place R i) (coded_length R 994) && eqb (place R (data_place R i)) i

-- all that a rate has to pass
abbrev Passed : Rate → Type 0
Passed R =
    T (ltb 0 (pattern_length R))
    × T (every_below (pattern_length R) (data_fits R))
    × T (every_below (length (tail R)) (tail_fits R))
    × T (every_below 994 (own_fits R))

passed : (R : Rate) → Passed R
passed Half = (tt, tt, tt, tt)
passed Third = (tt, tt, tt, tt)
passed TwoThirds = (tt, tt, tt, tt)

-- ---- places

-- the bit that the pattern of bit n begins at, and the output there; the output of a bit of the tail
abbrev pub begun : Rate → ℕ → ℕ
begun R n = n / pattern_length R * period R

abbrev pub output_of : Rate → ℕ → Sent
output_of R n = in_pattern R (n % pattern_length R)

abbrev pub end_of : Rate → ℕ → Sent
end_of R n = in_tail R (n - data_length R 994)

pub place-data : (R : Rate) (n : ℕ) → n < data_length R 994 → place R n ≡ place_from (begun R n) (output_of R n)
place-data R n lt = pick-lt n (data_length R 994) (place_from (begun R n) (output_of R n)) (place_from 994 (end_of R n)) lt

pub place-tail : (R : Rate) (n : ℕ) → data_length R 994 ≤ n → place R n ≡ place_from 994 (end_of R n)
place-tail R n le = pick-ge n (data_length R 994) (place_from (begun R n) (output_of R n)) (place_from 994 (end_of R n)) le

-- the pattern of bit n begins no later than the last one that has such an entry
last-begun : (D L P n : ℕ) → 0 < L → n < D → n / L * P ≤ (D - suc (n % L)) / L * P
last-begun D L P n pos lt = mul-le-mul_right P ((le-div_iff_mul-le pos).1 (omega (arith, div-add-mod' n L)))

pub data-further : (R : Rate) (n : ℕ) → n < data_length R 994 → begun R n + further (output_of R n) < 994
data-further R n lt =
    let pos : 0 < pattern_length R = ltb→lt 0 (pattern_length R) (passed R).0 in
    let last : (data_length R 994 - suc (n % pattern_length R)) / pattern_length R * period R + further (output_of R n) < 994 =
    ltb→lt _ 994 (every-at (pattern_length R) (data_fits R) (passed R).1 (n % pattern_length R) (mod-lt n pos)) in
    omega (arith, last-begun (data_length R 994) (pattern_length R) (period R) n pos lt)

pub tail-further : (R : Rate) (n : ℕ) → n < coded_length R 994 → data_length R 994 ≤ n → further (end_of R n) < 3
tail-further R n lt le = ltb→lt _ 3 (every-at (length (tail R)) (tail_fits R) (passed R).2 (n - data_length R 994) (omega arith))

place_from-lt : (i : ℕ) (s : Sent) → i + further s < 997 → place_from i s < 3988
place_from-lt i (at X k) lt = omega arith
place_from-lt i (at Y0 k) lt = omega arith
place_from-lt i (at X' k) lt = omega arith
place_from-lt i (at Y'0 k) lt = omega arith

pub place-lt : (R : Rate) (n : ℕ) → n < coded_length R 994 → place R n < 3988
place-lt R n lt = go (dec_lt n (data_length R 994))
  where
    go : Dec (n < data_length R 994) → place R n < 3988
    go (yes h) = rw (place-data R n h) (place_from-lt (begun R n) (output_of R n) (omega (arith, data-further R n h)))
    go (no h) = rw (place-tail R n (omega arith)) (place_from-lt 994 (end_of R n) (omega (arith, tail-further R n lt (omega arith))))

-- bit i of x itself stands where it is said to
pub own-place : (R : Rate) (i : ℕ) → i < 994 → (data_place R i < coded_length R 994) × (place R (data_place R i) ≡ i)
own-place R i lt =
    let inside = ltb (data_place R i) (coded_length R 994) in
    let there = eqb (place R (data_place R i)) i in
    let t : T (inside && there) = every-at 994 (own_fits R) (passed R).3 i lt in
    (ltb→lt _ _ (and_l inside there t), eqb→eq _ _ (and_r inside there t))

-- ---- a place by a table

place_from-add : (i : ℕ) (s : Sent) → place_from i s ≡ i + place_from 0 s
place_from-add i (at o k) = omega arith

module _ (ls : List ℕ) (bits long : ℕ) (ts : List ℕ) (n : ℕ) where
  -- place_by, below the data's length and from there on
  pub by-data : (d : ℕ) → length ls ≡ d → n < long → place_by ls bits long ts n ≡ n / d * bits + get_or ls (n % d) 0
  unfolding place_by
  by-data d e lt = rw (lt-ltb n long lt, e)

  pub by-tail : (t : ℕ) → length ts ≡ t → long ≤ n → place_by ls bits long ts n ≡ 1994 * ((n - long) / t) + get_or ts ((n - long) % t) 0
  unfolding place_by
  by-tail t e le = rw (le-ltb n long le, e)

-- tables that pass two computed tests against the rate's pattern and tail have its places
pub by-tables : (R : Rate) (ls : List ℕ) (bits long : ℕ) (ts : List ℕ)
    → length ls ≡ pattern_length R
    → bits ≡ period R
    → long ≡ data_length R 994
    → T (every_below (pattern_length R) (λ e. eqb (get_or ls e 0) (place_from 0 (in_pattern R e))))
    → T (every_below (length (tail R)) (λ e. eqb (1994 * (e / length ts) + get_or ts (e % length ts) 0) (place_from 994 (in_tail R e))))
    → (n : ℕ)
    → n < coded_length R 994
    → place_by ls bits long ts n ≡ place R n
by-tables R ls bits long ts wide many begins data-is tail-is n lt = go (dec_lt n (data_length R 994))
  where
    go : Dec (n < data_length R 994) → place_by ls bits long ts n ≡ place R n
    go (yes h) =
        by-data ls bits long ts n (pattern_length R) wide (omega (arith, begins))
        ∙ ap₂ ◌+◌ (ap (λ (b : ℕ). n / pattern_length R * b) many)
        (eqb→eq _ _ (every-at (pattern_length R) (λ e. eqb (get_or ls e 0) (place_from 0 (in_pattern R e))) data-is (n % pattern_length R)
        (mod-lt n (ltb→lt 0 (pattern_length R) (passed R).0))))
        ∙ sym (place-data R n h ∙ place_from-add (begun R n) (output_of R n))
    go (no h) =
        let t : ℕ → ℕ = λ (e : ℕ). 1994 * (e / length ts) + get_or ts (e % length ts) 0 in
        by-tail ls bits long ts n (length ts) refl (omega (arith, begins)) ∙ ap (λ (d : ℕ). t (n - d)) begins
        ∙ eqb→eq _ _ (every-at (length (tail R)) (λ e. eqb (t e) (place_from 994 (in_tail R e))) tail-is (n - data_length R 994) (omega arith))
        ∙ sym (place-tail R n (omega arith))

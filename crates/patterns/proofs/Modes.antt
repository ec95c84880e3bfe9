-- The places in each mode, through the bit interleaver. All that is asked of a mode is in its figures.
use mathlib.Core.Path.{◌≡◌}
use Prim.Native.Nat.{ℕ, ◌*◌, ◌/◌, ◌<◌, ◌≤◌}
use native.Mathlib.Nat.{mod-lt, div-lt_iff_lt-mul}
use native.Mathlib.Omega.{arith}
use Rattle.rules.specs.Interleaver.{bit_interleaved, bit_deinterleaved}
use Rattle.rules.specs.Turbo.{coded_length, data_place}
use Rattle.rules.specs.Modes.{rate, packet_bits}
use Rattle.rules.specs.declared.Rate.{Rate}
use Rattle.modes.proofs.Figures.{figures}
use Rattle.patterns.specs.Places.{place, sent_place, own_place}
use Rattle.patterns.proofs.Rates.{own-place}

-- ---- the bit interleaver, over any number of bits that four divides

module _ (L : ℕ) (four : L ≡ 4 * (L / 4)) where
  -- n's column
  pub column-lt : (n : ℕ) → n < L → n / (L / 4) < 4
  column-lt n lt =
      let pos : 0 < L / 4 = omega arith in
      (div-lt_iff_lt-mul {y = 4} pos).1 (omega arith)

  deinterleaved-lt : (n : ℕ) → n < L → bit_deinterleaved L n < L
  deinterleaved-lt n lt =
      let pos : 0 < L / 4 = omega arith in
      omega (arith, column-lt n lt, mod-lt n pos)

-- where bit i of x itself stands, and as which bit it is sent
pub own-lt : (R : Rate) (i : ℕ) → i < 994 → data_place R i < coded_length R 994
own-lt R i lt = (own-place R i lt).0

pub own-sent-lt : (R : Rate) (L : ℕ) → coded_length R 994 ≡ L → L ≡ 4 * (L / 4) → (i : ℕ) → i < 994 → bit_deinterleaved L (data_place R i) < L
own-sent-lt R L long four i lt = deinterleaved-lt L four (data_place R i) (omega (arith, own-lt R i lt))

-- what the code works out by a rate that is the mode's
module _ (m : ℕ) (R : Rate) (is : R ≡ rate m) where
  pub rate-quarters : (n : ℕ) → n ≡ packet_bits m → (coded_length R 994 ≡ 4 * (n / 4)) × (n / 4 ≤ 750)
  rate-quarters n e = rw is (omega (arith, (figures m).coded, (figures m).four), omega (arith, (figures m).most))

  pub rate-sent : (i : ℕ) → place R (bit_interleaved (coded_length R 994) i) ≡ sent_place m i
  rate-sent i = rw (is, (figures m).coded)

  pub rate-own : (i : ℕ) → bit_deinterleaved (coded_length R 994) (data_place R i) ≡ own_place m i
  rate-own i = rw (is, (figures m).coded)

-- What every mode's figures have in common. Where it takes five computed tests they are one statement over the table of modes.
use mathlib.Core.Path.{◌≡◌, refl, sym, ap, ◌∙◌, subst}
use mathlib.Core.Bool.{Bool, ◌&&◌, ◌||◌}
use mathlib.Core.Logic.{◌⊎◌, inl, inr, ⊎_elim}
use Prim.Native.Nat.{ℕ, ◌+◌, ◌*◌, ◌/◌, ◌%◌, ◌<◌, ◌≤◌}
use native.Mathlib.Decide.{dec_lt}
use native.Mathlib.Nat.{mul_comm, mod-lt, div-lt_iff_lt-mul}
use native.Mathlib.Omega.{arith}
use mir.Facts.{or_yes}
use lib.Dec.{T, eqb, leb, ltb, eqb→eq, leb→le}
use lib.Ieee.Fits.{and_l, and_r}
use lib.ListN.{get_or-eq_default}
use borrow.Author.Tests.{lt-ltb, le-ltb}
use Rattle.rules.specs.Bits.{pick, every_below}
use Rattle.rules.specs.Turbo.{entered, coded_length}
use Rattle.rules.specs.Modes.{Mode, modes, mode, rate, part_bits, slot_bits, packet_bits, slots}
use Rattle.laws.specs.Every.{every-at}
use Rattle.laws.specs.Parts.{part-within}
use Rattle.modes.specs.Counted.{counted}

counted-lt : (m : ℕ) → counted m < 5
counted-lt m = go (dec_lt m 5)
  where
    go : Dec (m < 5) → counted m < 5
    go (yes l) = rw (lt-ltb m 5 l) l
    go (no l) = rw (le-ltb m 5 (omega arith)) (omega arith)

mode-counted : (m : ℕ) → mode m ≡ mode (counted m)
unfolding mode
mode-counted m = go (dec_lt m 5)
  where
    go : Dec (m < 5) → mode m ≡ mode (counted m)
    go (yes l) = rw (lt-ltb m 5 l)
    go (no l) = rw (le-ltb m 5 (omega arith)) (get_or-eq_default modes _ {n = m} (omega arith))

-- a test of a mode that each of the five passes, every number passes
pub every-mode : (f : Mode → Bool) → T (every_below 5 (λ m. f (mode m))) → (m : ℕ) → T (f (mode m))
every-mode f t m = rw (mode-counted m) (every-at 5 (λ k. f (mode k)) t (counted m) (counted-lt m))

-- ---- the figures

abbrev bits_of : Mode → ℕ
bits_of M = coded_length M.rate entered

abbrev slot_of : Mode → ℕ
slot_of M = 500 * M.point_bits

abbrev slots_of : Mode → ℕ
slots_of M = 16 * bits_of M / slot_of M

abbrev passes : Mode → Bool
passes M =
    eqb (bits_of M) (4 * (bits_of M / 4))
    && (leb 1500 (bits_of M)
    && (leb (bits_of M) 3000
    && (eqb (bits_of M * 16) (slot_of M * slots_of M)
    && (leb 1 (slots_of M)
    && (leb (slots_of M) 48
    && (eqb (slot_of M) (1000 * (M.point_bits / 2))
    && (eqb (M.point_bits / 2) 1 || eqb (M.point_bits / 2) 2)))))))

pub record Figures (m : ℕ) : Type 0 where
  -- four divides the bits of a packet, which are those that the rate makes
  pub four : packet_bits m ≡ 4 * (packet_bits m / 4)
  pub coded : coded_length (rate m) entered ≡ packet_bits m
  pub least : 1500 ≤ packet_bits m
  pub most : packet_bits m ≤ 3000
  -- a block's packets fill its slots
  pub whole : packet_bits m * 16 ≡ slot_bits m * slots m
  pub some_slots : 1 ≤ slots m
  pub slots_most : slots m ≤ 48
  pub slot : slot_bits m ≡ 1000 * part_bits m
  pub part : (part_bits m ≡ 1) ⊎ (part_bits m ≡ 2)

pub figures : (m : ℕ) → Figures m
unfolding mode part_bits slot_bits packet_bits slots
figures m =
    let M = mode m in
    let t₀ = every-mode passes tt m in
    let t₁ = and_r (eqb (bits_of M) (4 * (bits_of M / 4))) _ t₀ in
    let t₂ = and_r (leb 1500 (bits_of M)) _ t₁ in
    let t₃ = and_r (leb (bits_of M) 3000) _ t₂ in
    let t₄ = and_r (eqb (bits_of M * 16) (slot_of M * slots_of M)) _ t₃ in
    let t₅ = and_r (leb 1 (slots_of M)) _ t₄ in
    let t₆ = and_r (leb (slots_of M) 48) _ t₅ in
    let t₇ = and_r (eqb (slot_of M) (1000 * (M.point_bits / 2))) _ t₆ in
    record {
      four = eqb→eq _ _ (and_l (eqb (bits_of M) (4 * (bits_of M / 4))) _ t₀);
      coded = refl;
      least = leb→le _ _ (and_l (leb 1500 (bits_of M)) _ t₁);
      most = leb→le _ _ (and_l (leb (bits_of M) 3000) _ t₂);
      whole = eqb→eq _ _ (and_l (eqb (bits_of M * 16) (slot_of M * slots_of M)) _ t₃);
      some_slots = leb→le _ _ (and_l (leb 1 (slots_of M)) _ t₄);
      slots_most = leb→le _ _ (and_l (leb (slots_of M) 48) _ t₅);
      slot = eqb→eq _ _ (and_l (eqb (slot_of M) (1000 * (M.point_bits / 2))) _ t₆);
      part =
          ⊎_elim (λ u. inl (eqb→eq _ _ u)) (λ u. inr (eqb→eq _ _ u))
          (or_yes (eqb (M.point_bits / 2) 1) (eqb (M.point_bits / 2) 2) t₇);
    }

pub part-bounds : (m : ℕ) → (1 ≤ part_bits m) × (part_bits m ≤ 2)
part-bounds m = ⊎_elim (λ e. omega arith) (λ e. omega arith) (figures m).part

-- no block has more than 48000 bits
pub block-most : (m : ℕ) → slot_bits m * slots m ≤ 48000
block-most m = omega (arith, (figures m).whole, (figures m).most)

-- a packet's bits are the block's
pub in-block : (m p i : ℕ) → p < 16 → i < packet_bits m → packet_bits m * p + i < slot_bits m * slots m
in-block m p i h l = omega (arith, part-within (packet_bits m) p 16 h, (figures m).whole)

-- a bit of the block is one of a slot
pub in-slot : (m g : ℕ) → g < slot_bits m * slots m → (g / slot_bits m < slots m) × (g % slot_bits m < slot_bits m)
in-slot m g lt =
    let f = figures m in
    let some : 0 < slot_bits m = omega (arith, f.slot, (part-bounds m).0) in
    ((div-lt_iff_lt-mul {y = slots m} some).1 (omega (arith, mul_comm (slot_bits m) (slots m))), mod-lt g some)

-- ---- by the mode k that a number counts as

-- the first two have one bit a part, the others two
part-counted : (m k : ℕ) → k ≡ counted m → part_bits m ≡ pick (ltb k 2) 1 2
unfolding mode part_bits
part-counted m k e =
    let l = subst (λ (n : ℕ). n < 5) (sym e) (counted-lt m) in
    ap (λ (M : Mode). M.point_bits / 2) (mode-counted m ∙ ap mode (sym e)) ∙ eqb→eq _ _ (every-at 5 (λ n. eqb (part_bits n) (pick (ltb n 2) 1 2)) tt k l)

pub qpsk : (m k : ℕ) → k ≡ counted m → k < 2 → part_bits m ≡ 1
qpsk m k e l = part-counted m k e ∙ rw (lt-ltb k 2 l)

pub qam : (m k : ℕ) → k ≡ counted m → 2 ≤ k → part_bits m ≡ 2
qam m k e l = part-counted m k e ∙ rw (le-ltb k 2 l)

-- the rate of the mode that a number counts as
pub rate-counted : (m k : ℕ) → k ≡ counted m → rate m ≡ rate k
rate-counted m k e = ap (λ (M : Mode). M.rate) (mode-counted m ∙ ap mode (sym e))

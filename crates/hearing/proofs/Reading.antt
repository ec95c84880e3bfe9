-- The bits of a slot among the bytes of the grid's cells, and that these decide as the cells do.
use mathlib.Core.Path.{◌≡◌, sym, ◌∙◌, ap, ap₂}
use mathlib.Core.List.{List}
use Prim.Native.Nat.{ℕ, ◌+◌, ◌*◌, ◌/◌, ◌%◌, ◌^◌, ◌<◌, ◌≤◌}
use native.Mathlib.Decide.{ℕ_discrete}
use native.Mathlib.Nat.{add_comm, div-add-mod, mod-lt, div-lt_iff_lt-mul}
use native.Mathlib.Omega.{arith}
use lib.Dec.{eqb}
use lib.Ieee.{Float}
use lib.ListN.{get_or}
use borrow.Author.Tests.{eq-eqb, ne_eqb}
use Rattle.rules.specs.Bits.{pick}
use Rattle.rules.specs.Modes.{part_bits, slots, slot_bits, symbols}
use Rattle.rules.specs.Points.{zero_part, decide, bit_in}
use Rattle.rules.specs.Block.{heard, in_block, part_of}
use Rattle.rules.specs.declared.Profile.{Profile}
use Rattle.rules.specs.Pieces.{choices, byte_at, decision_in, kept_bit}
use Rattle.laws.specs.Holds.{Holds}
use Rattle.laws.specs.Decisions.{decide-le}
use Rattle.laws.specs.Parts.{part-number, part-place, part-within}
use Rattle.modes.proofs.Figures.{figures, part-bounds}
use Rattle.cells.proofs.Inverse.{point-cell-lt}
use Rattle.rules.specs.Cells.{grid_cell}
use Rattle.hearing.specs.Reading.{point_byte, spread_bit}

-- ---- within the block

-- a block's own cells are the grid's
pub grid-cell-lt : (m t i : ℕ) → t < slots m → i < 500 → grid_cell t i < 4096 * symbols m
grid-cell-lt m t i h l = omega (arith, point-cell-lt t i l)

-- bit i of a slot is one of its 500 points'
pub point-of-bit : (m i : ℕ) → i < slot_bits m → i / part_bits m / 2 < 500
point-of-bit m i h =
    let part : i / part_bits m < 1000 = (div-lt_iff_lt-mul (part-bounds m).0).1 (omega (arith, (figures m).slot)) in
    omega arith

-- ---- bytes spread

-- the code's choices
pub choices-are : (w : ℕ) → 1 ≤ w → w ≤ 2 → 1 * 2 ^ w % 256 + 1 ≡ choices w
choices-are w l m = go (ℕ_discrete w 1)
  where
    go : Dec (w ≡ 1) → 1 * 2 ^ w % 256 + 1 ≡ choices w
    go (yes e) = rw e
    go (no n) = let e : w ≡ 2 = omega arith in rw e

-- place k of a byte's bits is in one of its two parts
pub part-of : {w k : ℕ} → 0 < w → k < 2 * w → k / w < 2
part-of {w} {k} some h = (div-lt_iff_lt-mul {y = 2} some).1 (omega arith)

module _ (w : ℕ) (bytes : ℕ → ℕ) (i : ℕ) where
  -- bit k of part n of byte i stands there
  abbrev At : ℕ → ℕ → ℕ → Type 0
  At n k at = (n < 2) × (k < w) × (at ≡ 2 * w * i + (w * n + k))

  spread_at : (n k at : ℕ) → At n k at → bit_in w (decision_in w (bytes i) n) k ≡ spread_bit w bytes at
  spread_at n k at h =
      sym
      (ap (spread_bit w bytes) place
      ∙ ap₂ (λ (q r : ℕ). bit_in w (decision_in w (bytes (q / 2)) q) r) (part-number w (2 * i + n) k h.1) (part-place w (2 * i + n) k h.1)
      ∙ ap₂ (λ (q r : ℕ). bit_in w (pick (eqb r 0) (bytes q % choices w) (bytes q / choices w)) k) point parity)
    where
      place : at ≡ w * (2 * i + n) + k
      place = omega arith

      point : (2 * i + n) / 2 ≡ i
      point = omega arith

      parity : (2 * i + n) % 2 ≡ n % 2
      parity = omega arith

  -- place k of byte i's bits
  pub spread-in : (k : ℕ) → 0 < w → k < 2 * w → bit_in w (decision_in w (bytes i) (k / w)) (k % w) ≡ spread_bit w bytes (2 * w * i + k)
  spread-in k some h =
      spread_at (k / w) (k % w) (2 * w * i + k) (part-of some h, mod-lt k some, omega (arith, div-add-mod k w))

-- the bytes of a slot's points, spread, are the slot's bits
pub spread-slot : (m : ℕ) (cells bytes : ℕ → ℕ) (t : ℕ) → ((i : ℕ) → i < 500 → bytes i ≡ point_byte cells t i)
    → (k : ℕ) → k < slot_bits m → spread_bit (part_bits m) bytes k ≡ kept_bit m cells t k
unfolding kept_bit
spread-slot m cells bytes t each k h =
    let w = part_bits m in
    ap (λ (b : ℕ). bit_in w (decision_in w b (k / w)) (k % w)) (each (k / w / 2) (point-of-bit m k h))

pub slot_read : (m w n : ℕ) (cells bytes : ℕ → ℕ) (t : ℕ) {l : List ℕ} → w ≡ part_bits m → n ≡ slot_bits m
    → ((i : ℕ) → i < 500 → bytes i ≡ point_byte cells t i)
    → Holds 0 n (spread_bit w bytes) l
    → Holds 0 (slot_bits m) (kept_bit m cells t) l
slot_read m w n cells bytes t p q each h =
    record {
      long = h.long ∙ q;
      each = λ k lt. h.each k (omega arith) ∙ ap (λ (v : ℕ). spread_bit v bytes k) p ∙ spread-slot m cells bytes t each k lt;
    }

module _ (m : ℕ) (cells : ℕ → ℕ) where
  -- bit k of slot t is the block's
  pub kept-in-block : (t k : ℕ) → k < slot_bits m → kept_bit m cells t k ≡ in_block m (kept_bit m cells) (slot_bits m * t + k)
  kept-in-block t k h = ap₂ (kept_bit m cells) (sym (part-number (slot_bits m) t k h)) (sym (part-place (slot_bits m) t k h))

-- ---- a cell's byte

module _ (n a b : ℕ) (h : a < n) where
  byte-first : (a + n * b) % n ≡ a
  byte-first = ap (λ (x : ℕ). x % n) (add_comm a (n * b)) ∙ part-place n b a h

  byte-second : (a + n * b) / n ≡ b
  byte-second = ap (λ (x : ℕ). x / n) (add_comm a (n * b)) ∙ part-number n b a h

  byte-below : b < n → a + n * b < n * n
  byte-below l = omega (arith, part-within n b n l)

module _ (P : Profile) where
  decided-lt : (a : Float) → decide (part_bits P.mode) P.level P.floor a < choices (part_bits P.mode)
  decided-lt a = omega (arith, decide-le (part_bits P.mode) P.level P.floor a (figures P.mode).part)

  -- it holds two decisions
  pub byte-lt : (f s : List Float) (c : ℕ) → byte_at P f s c < choices (part_bits P.mode) * choices (part_bits P.mode)
  byte-lt f s c = byte-below _ _ _ (decided-lt (get_or f c zero_part)) (decided-lt (get_or s c zero_part))

  -- where each byte is its cell's, the bits are those that the cells decide to
  pub kept-heard : (cells : ℕ → ℕ) (f s : List Float) → ((c : ℕ) → c < 4096 * symbols P.mode → cells c ≡ byte_at P f s c)
      → (t i : ℕ) → t < slots P.mode → i < slot_bits P.mode → kept_bit P.mode cells t i ≡ heard P f s t i
  unfolding kept_bit heard
  kept-heard cells f s each t i h l = go (ℕ_discrete (n % 2) 0)
    where
      w : ℕ
      w = part_bits P.mode

      n : ℕ
      n = i / w

      c : ℕ
      c = grid_cell t (n / 2)

      byte : cells c ≡ byte_at P f s c
      byte = each c (grid-cell-lt P.mode t (n / 2) h (point-of-bit P.mode i l))

      first : cells c % choices w ≡ decide w P.level P.floor (get_or f c zero_part)
      first = ap (λ (x : ℕ). x % choices w) byte ∙ byte-first (choices w) _ _ (decided-lt (get_or f c zero_part))

      second : cells c / choices w ≡ decide w P.level P.floor (get_or s c zero_part)
      second = ap (λ (x : ℕ). x / choices w) byte ∙ byte-second (choices w) _ _ (decided-lt (get_or f c zero_part))

      go : Dec (n % 2 ≡ 0) → bit_in w (decision_in w (cells c) n) (i % w) ≡ bit_in w (decide w P.level P.floor (part_of n f s c)) (i % w)
      go (yes e) = simp (eq-eqb (n % 2) 0 e) (ap (λ (d : ℕ). bit_in w d (i % w)) first)
      go (no ne) = simp (ne_eqb (n % 2) 0 ne) (ap (λ (d : ℕ). bit_in w d (i % w)) second)

-- the bits go by the bytes of the grid's cells
pub kept_same : (cells cells' : ℕ → ℕ) (m : ℕ) → ((c : ℕ) → c < 4096 * symbols m → cells c ≡ cells' c)
    → (t i : ℕ) → t < slots m → i < slot_bits m → kept_bit m cells t i ≡ kept_bit m cells' t i
unfolding kept_bit
kept_same cells cells' m each t i h l =
    let w = part_bits m in
    ap (λ (b : ℕ). bit_in w (decision_in w b (i / w)) (i % w))
    (each (grid_cell t (i / w / 2)) (grid-cell-lt m t (i / w / 2) h (point-of-bit m i l)))

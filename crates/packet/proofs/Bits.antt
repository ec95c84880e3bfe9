-- A packet's bytes and its bits say the same.
use mathlib.Core.Path.{◌≡◌, refl, sym, ap, ap₂, ◌∙◌}
use mathlib.Core.Bool.{Bool, true, false, ◌&&◌}
use Prim.Native.Nat.{ℕ, zero, suc, ◌+◌, ◌-◌, ◌*◌, ◌/◌, ◌%◌, ◌^◌, ◌<◌, ◌≤◌}
use native.Mathlib.Nat.{mod-lt, mod-eq_of_lt, le_refl, div-one}
use native.Mathlib.Decide.{ℕ_discrete, dec_lt}
use native.Mathlib.Omega.{arith}
use lib.Dec.{T, eqb, ltb, lit<, eqb→eq}
use lib.Ieee.Fits.{and_l, and_r}
use borrow.Author.Tests.{lt-ltb, le-ltb}
use lib.Pow.{shr-shr}
use Rattle.std.specs.Int.{to_be_bytes, w16}
use mathlib.Core.List.{List}
use lib.ListN.{length}
use Rattle.laws.specs.Parts.{part, part-long, part_at}
use Rattle.laws.specs.Mask.{marked-low}
use Rattle.rules.specs.Bits.{pick, row, bit_of, byte_bit}
use Rattle.rules.specs.Packet.{check_step, check_register, check_word, packet_bit}
use Rattle.packet.proofs.Number.{number_same, number-byte, number-of-bits, bit-of-number}
use Rattle.rules.specs.Block.{byte_of, check_right, reserved_right}
use Rattle.laws.specs.Every.{every-at, every-same}

-- ---- the rules by cases

-- the register goes by the bits that it has been fed
pub register-same : (x y : ℕ → ℕ) (n : ℕ) → ((i : ℕ) → i < n → x i ≡ y i) → check_register x n ≡ check_register y n
unfolding check_register
register-same x y zero h = refl
register-same x y (suc n) h = ap₂ check_step (register-same x y n (λ i lt. h i (omega arith))) (h n (le_refl (suc n)))

pub word_same : (x y : ℕ → ℕ) (n : ℕ) → ((i : ℕ) → i < n → x i ≡ y i) → check_word x n ≡ check_word y n
unfolding check_word
word_same x y n h = ap (λ (s : ℕ). 2 ^ 16 - 1 - s) (register-same x y n h)

-- the word of the first 976 bits of a list
pub word-front : (l : List ℕ) → 976 ≤ length l → check_word (row (part 0 976 l)) (length (part 0 976 l)) ≡ check_word (row l) 976
word-front l h =
    ap (check_word (row (part 0 976 l))) (part-long 0 976 l (omega arith) h)
    ∙ word_same (row (part 0 976 l)) (row l) 976 (λ k lt. part_at 0 976 l (omega arith) h k 0 (omega arith) ∙ ap (row l) (omega arith))

pub right-bit : (x : ℕ → ℕ) → T (check_right x) → (i : ℕ) → i < 16 → x (976 + i) ≡ bit_of 16 (check_word x 976) i
right-bit x c i h =
    eqb→eq (x (976 + i)) (bit_of 16 (check_word x 976) i)
    (every-at 16 (λ k. eqb (x (976 + k)) (bit_of 16 (check_word x 976) k)) c i h)

module _ (d : ℕ → ℕ) where
  pub data-bit : (i : ℕ) → i < 976 → packet_bit d i ≡ byte_bit d i
  unfolding packet_bit
  data-bit i h = rw (lt-ltb i 976 h)

  pub check-bit : (i : ℕ) → i < 16 → packet_bit d (976 + i) ≡ bit_of 16 (check_word (byte_bit d) 976) i
  unfolding packet_bit
  check-bit i h =
      let from : ltb (976 + i) 976 ≡ false = le-ltb (976 + i) 976 (omega arith) in
      let to : ltb (976 + i) 992 ≡ true = lt-ltb (976 + i) 992 (omega arith) in
      let place : 976 + i - 976 ≡ i = omega arith in
      rw (from, to, place)

  pub zero_bit : (i : ℕ) → 992 ≤ i → packet_bit d i ≡ 0
  unfolding packet_bit
  zero_bit i h = rw (le-ltb i 976 (omega arith), le-ltb i 992 h)

  pub packet-bit-lt : (i : ℕ) → packet_bit d i < 2
  unfolding packet_bit
  packet-bit-lt i = go (ltb i 976) (ltb i 992)
    where
      go : (a b : Bool) → pick a (byte_bit d i) (pick b (bit_of 16 (check_word (byte_bit d) 976) (i - 976)) 0) < 2
      go true b = mod-lt _ (lit< tt)
      go false true = mod-lt _ (lit< tt)
      go false false = lit< tt

  -- bit k of byte j
  byte-bit : (j k : ℕ) → j < 122 → k < 8 → packet_bit d (8 * j + k) ≡ bit_of 8 (d j) k
  byte-bit j k hj hk =
      let byte : (8 * j + k) / 8 ≡ j = omega arith in
      let place : (8 * j + k) % 8 ≡ k = omega arith in
      data-bit (8 * j + k) (omega arith) ∙ ap₂ (λ (a b : ℕ). bit_of 8 (d a) b) byte place

  -- the bytes come back
  pub bytes_back : (j : ℕ) → j < 122 → d j < 256 → byte_of (packet_bit d) j ≡ d j
  bytes_back j hj hd =
      sym (number-byte (packet_bit d) j)
      ∙ number_same (λ k. packet_bit d (8 * j + k)) (bit_of 8 (d j)) 8 (λ k hk. byte-bit j k hj hk)
      ∙ number-of-bits 8 (d j) 8 hd (le_refl 8) ∙ div-one (d j)

-- the bits go by the 122 bytes
pub packet-same : (d e : ℕ → ℕ) → ((j : ℕ) → j < 122 → d j ≡ e j) → (i : ℕ) → packet_bit d i ≡ packet_bit e i
unfolding packet_bit
packet-same d e h i = go (dec_lt i 976)
  where
    at : (k : ℕ) → k < 976 → byte_bit d k ≡ byte_bit e k
    at k lt = ap (λ (b : ℕ). bit_of 8 b (k % 8)) (h (k / 8) (omega arith))

    go : Dec (i < 976) → packet_bit d i ≡ packet_bit e i
    go (yes lt) = data-bit d i lt ∙ at i lt ∙ sym (data-bit e i lt)
    go (no ge) = rw (le-ltb i 976 (omega arith), word_same (byte_bit d) (byte_bit e) 976 at)

-- ---- the bits of the check word's two bytes

module _ (w i : ℕ) where
  high-bit : i < 8 → bit_of 8 (w / 256 % 256) i ≡ bit_of 16 w i
  high-bit lt =
      let place : 8 + (7 - i) ≡ 15 - i = omega arith in
      sym (marked-low (w / 256) 8 (7 - i) (omega arith)) ∙ ap (λ (a : ℕ). a % 2) (shr-shr w 8 (7 - i)) ∙ ap (λ (k : ℕ). w / 2 ^ k % 2) place

  low-bit : 8 ≤ i → i < 16 → bit_of 8 (w % 256) (i - 8) ≡ bit_of 16 w i
  low-bit le lt =
      let place : 7 - (i - 8) ≡ 15 - i = omega arith in
      sym (marked-low w 8 (7 - (i - 8)) (omega arith)) ∙ ap (λ (k : ℕ). w / 2 ^ k % 2) place

  pub word-bit : i < 16 → byte_bit (row (to_be_bytes w16 w)) i ≡ bit_of 16 w i
  word-bit lt = go (dec_lt i 8)
    where
      go : Dec (i < 8) → byte_bit (row (to_be_bytes w16 w)) i ≡ bit_of 16 w i
      go (yes before) =
          let byte : i / 8 ≡ 0 = omega arith in
          let place : i % 8 ≡ i = omega arith in
          rw (byte, place) (high-bit before)
      go (no after) =
          let byte : i / 8 ≡ 1 = omega arith in
          let place : i % 8 ≡ i - 8 = omega arith in
          rw (byte, place) (low-bit (omega arith) lt)

-- ---- the same of rows that have the same 994 bits

module _ (x y : ℕ → ℕ) (same : (i : ℕ) → i < 994 → x i ≡ y i) where
  pub check-same : check_right x ≡ check_right y
  check-same =
      every-same 16 (λ i. eqb (x (976 + i)) (bit_of 16 (check_word x 976) i)) (λ i. eqb (y (976 + i)) (bit_of 16 (check_word y 976) i))
      (λ i lt. ap₂ eqb (same (976 + i) (omega arith)) (ap (λ (w : ℕ). bit_of 16 w i) (word_same x y 976 (λ k below. same k (omega arith)))))

  pub reserved-same : reserved_right x ≡ reserved_right y
  reserved-same = ap₂ (λ (a b : ℕ). eqb a 0 && eqb b 0) (same 992 (omega arith)) (same 993 (omega arith))

  pub byte-same : (j : ℕ) → j < 122 → byte_of x j ≡ byte_of y j
  byte-same j lt =
      sym (number-byte x j) ∙ number_same (λ k. x (8 * j + k)) (λ k. y (8 * j + k)) 8 (λ k below. same (8 * j + k) (omega arith)) ∙ number-byte y j

-- bits count as they are
pub lowest-bytes : (x : ℕ → ℕ) → ((i : ℕ) → i < 994 → x i < 2) → (j : ℕ) → j < 122 → byte_of (λ i. x i % 2) j ≡ byte_of x j
lowest-bytes x bit = byte-same (λ i. x i % 2) x (λ i lt. mod-eq_of_lt (bit i lt))

-- ---- from bits to bytes

module _ (x : ℕ → ℕ) (bit : (i : ℕ) → i < 976 → x i < 2) where
  -- a data bit is the bit of its byte
  bit-back : (i : ℕ) → i < 976 → byte_bit (byte_of x) i ≡ x i
  bit-back i h =
      let whole : 8 * (i / 8) + i % 8 ≡ i = omega arith in
      ap (λ (b : ℕ). bit_of 8 b (i % 8)) (sym (number-byte x (i / 8)))
      ∙ bit-of-number (λ k. x (8 * (i / 8) + k)) 8 (λ k hk. bit (8 * (i / 8) + k) (omega arith)) (i % 8) (omega arith) ∙ ap x whole

  -- right bits are those of their bytes' packet
  pub bits_back : T (check_right x) → T (reserved_right x) → (i : ℕ) → i < 994 → packet_bit (byte_of x) i ≡ x i
  bits_back c r i h = go (dec_lt i 976) (dec_lt i 992) (ℕ_discrete i 992)
    where
      go : Dec (i < 976) → Dec (i < 992) → Dec (i ≡ 992) → packet_bit (byte_of x) i ≡ x i
      go (yes a) b e = data-bit (byte_of x) i a ∙ bit-back i a
      go (no a) (yes b) e =
          let lt : i - 976 < 16 = omega arith in
          let place : 976 + (i - 976) ≡ i = omega arith in
          rw (← place)
          (check-bit (byte_of x) (i - 976) lt ∙ ap (λ (w : ℕ). bit_of 16 w (i - 976)) (word_same (byte_bit (byte_of x)) x 976 bit-back)
          ∙ sym (right-bit x c (i - 976) lt))
      go (no a) (no b) (yes e) = zero_bit (byte_of x) i (omega arith) ∙ sym (ap x e ∙ eqb→eq (x 992) 0 (and_l (eqb (x 992) 0) (eqb (x 993) 0) r))
      go (no a) (no b) (no e) =
          let last : i ≡ 993 = omega arith in
          zero_bit (byte_of x) i (omega arith) ∙ sym (ap x last ∙ eqb→eq (x 993) 0 (and_r (eqb (x 992) 0) (eqb (x 993) 0) r))

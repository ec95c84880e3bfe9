-- Demand 2: a packet's decided bits are accepted exactly where they are the coded bits of 122 bytes, and those bytes are what they decide to.
use mathlib.Core.Path.{◌≡◌, refl, sym, ap, subst, ◌∙◌}
use mathlib.Core.Bool.{Bool, true, false, not}
use Prim.Native.Nat.{ℕ, ◌+◌, ◌*◌, ◌<◌}
use native.Mathlib.Omega.{arith}
use lib.Dec.{T, eqb, ltb, eqb→eq, ltb→lt, lt→ltb}
use lib.Ieee.Fits.{and_i, eq→eqb}
use Rattle.rules.specs.Bits.{pick, bit_of, byte_bit}
use Rattle.rules.specs.Packet.{check_word, packet_bit}
use Rattle.rules.specs.Modes.{packet_bits}
use Rattle.rules.specs.Slots.{coded}
use Rattle.rules.specs.Block.{decided_data, byte_of, check_right, reserved_right, judged, verdict}
use Rattle.laws.specs.Every.{every-at, every_of}
use Rattle.packet.proofs.Bits.{data-bit, check-bit, zero_bit, packet-bit-lt, bytes_back, bits_back, word_same, check-same, reserved-same, byte-same}
use Rattle.turbo.specs.Coded.{plain_bits, same_bits}
use Rattle.turbo.proofs.Modes.{sent-lt, decided-coded, coded-same, coded-bit}

-- ---- a packet's own bits are right

module _ (d : ℕ → ℕ) where
  check-own : T (check_right (packet_bit d))
  check-own =
      every_of 16 (λ i. eqb (packet_bit d (976 + i)) (bit_of 16 (check_word (packet_bit d) 976) i))
      (λ i lt. eq→eqb (check-bit d i lt ∙ ap (λ (w : ℕ). bit_of 16 w i) (sym (word_same (packet_bit d) (byte_bit d) 976 (data-bit d)))))

  reserved-own : T (reserved_right (packet_bit d))
  reserved-own =
      and_i (eqb (packet_bit d 992) 0) (eqb (packet_bit d 993) 0) (eq→eqb (zero_bit d 992 (omega arith))) (eq→eqb (zero_bit d 993 (omega arith)))

-- bytes of bits are below 256
byte-lt : (x : ℕ → ℕ) → ((i : ℕ) → i < 994 → x i < 2) → (j : ℕ) → j < 122 → byte_of x j < 256
byte-lt x bit j lt =
    omega (
      arith,
      bit (8 * j) (omega arith),
      bit (8 * j + 1) (omega arith),
      bit (8 * j + 2) (omega arith),
      bit (8 * j + 3) (omega arith),
      bit (8 * j + 4) (omega arith),
      bit (8 * j + 5) (omega arith),
      bit (8 * j + 6) (omega arith),
      bit (8 * j + 7) (omega arith),
    )

-- ---- the verdict by its tests

-- the first test that fails says the reason
abbrev reason_of : Bool → Bool → Bool → Bool → ℕ
reason_of plain check reserved same = pick (not plain) 12 (pick (not check) 13 (pick (not reserved) 14 (pick (not same) 15 0)))

verdict-tests : (m : ℕ) (v : ℕ → ℕ)
    → verdict m v
    ≡ reason_of (plain_bits (packet_bits m) v) (check_right (decided_data m v)) (reserved_right (decided_data m v))
    (same_bits (packet_bits m) v (coded m (decided_data m v)))
unfolding judged
verdict-tests m v = refl

-- the verdict where the tests come out as a, b, c, d
pub verdict-by : (m : ℕ) (v : ℕ → ℕ) {a b c d : Bool}
    → plain_bits (packet_bits m) v ≡ a
    → check_right (decided_data m v) ≡ b
    → reserved_right (decided_data m v) ≡ c
    → same_bits (packet_bits m) v (coded m (decided_data m v)) ≡ d
    → reason_of a b c d ≡ verdict m v
verdict-by m v p q r s = sym (verdict-tests m v ∙ (λ i. reason_of (p i) (q i) (r i) (s i)))

all-passed : (a b c d : Bool) → reason_of a b c d ≡ 0 → T a × T b × T c × T d
all-passed false b c d e = absurd (omega arith)
all-passed true false c d e = absurd (omega arith)
all-passed true true false d e = absurd (omega arith)
all-passed true true true false e = absurd (omega arith)
all-passed true true true true e = (tt, tt, tt, tt)

none-failed : (a b c d : Bool) → T a → T b → T c → T d → reason_of a b c d ≡ 0
none-failed true true true true p q r s = refl
none-failed false b c d p q r s = absurd p
none-failed true false c d p q r s = absurd q
none-failed true true false d p q r s = absurd r
none-failed true true true false p q r s = absurd s

-- ---- the theorem

module _ (m : ℕ) (v : ℕ → ℕ) where
  pub decided-bit : T (plain_bits (packet_bits m) v) → (i : ℕ) → i < 994 → decided_data m v i < 2
  decided-bit plain i lt = ltb→lt _ 2 (every-at (packet_bits m) (λ k. ltb (v k) 2) plain _ (sent-lt m i lt))

  -- accepted bits are the coded bits of the bytes that they decide to
  pub accepted-coded : verdict m v ≡ 0
      → ((j : ℕ) → j < 122 → byte_of (decided_data m v) j < 256)
      × ((i : ℕ) → i < packet_bits m → v i ≡ coded m (packet_bit (byte_of (decided_data m v))) i)
  accepted-coded e = (byte-lt x (decided-bit passed.0), same)
    where
      x : ℕ → ℕ
      x = decided_data m v

      passed : T (plain_bits (packet_bits m) v) × T (check_right x) × T (reserved_right x) × T (same_bits (packet_bits m) v (coded m x))
      passed =
          all-passed (plain_bits (packet_bits m) v) (check_right x) (reserved_right x) (same_bits (packet_bits m) v (coded m x))
          (sym (verdict-tests m v) ∙ e)

      back : (i : ℕ) → i < 994 → packet_bit (byte_of x) i ≡ x i
      back = bits_back x (λ i lt. decided-bit passed.0 i (omega arith)) passed.1 passed.2

      same : (i : ℕ) → i < packet_bits m → v i ≡ coded m (packet_bit (byte_of x)) i
      same i lt =
          eqb→eq (v i) (coded m x i) (every-at (packet_bits m) (λ k. eqb (v k) (coded m x k)) passed.3 i lt)
          ∙ sym (coded-same m (packet_bit (byte_of x)) x back i lt)

  module _ (d : ℕ → ℕ) (sent : (i : ℕ) → i < packet_bits m → v i ≡ coded m (packet_bit d) i) where
    -- the data decides to the packet's own bits
    pub decided-sent : (i : ℕ) → i < 994 → decided_data m v i ≡ packet_bit d i
    decided-sent i lt = sent _ (sent-lt m i lt) ∙ decided-coded m (packet_bit d) i lt

    -- coded bits of any bytes are accepted
    pub coded-accepted : verdict m v ≡ 0
    coded-accepted =
        verdict-tests m v
        ∙ none-failed (plain_bits (packet_bits m) v) (check_right (decided_data m v)) (reserved_right (decided_data m v))
        (same_bits (packet_bits m) v (coded m (decided_data m v))) plain
        (subst T (sym (check-same (decided_data m v) (packet_bit d) decided-sent)) (check-own d))
        (subst T (sym (reserved-same (decided_data m v) (packet_bit d) decided-sent)) (reserved-own d)) same
      where
        plain : T (plain_bits (packet_bits m) v)
        plain =
            every_of (packet_bits m) (λ i. ltb (v i) 2)
            (λ i lt. lt→ltb (v i) 2 (rw (sent i lt) (coded-bit m (packet_bit d) (λ k below. packet-bit-lt d k) i lt)))

        same : T (same_bits (packet_bits m) v (coded m (decided_data m v)))
        same =
            every_of (packet_bits m) (λ i. eqb (v i) (coded m (decided_data m v) i))
            (λ i lt. eq→eqb (sent i lt ∙ sym (coded-same m (decided_data m v) (packet_bit d) decided-sent i lt)))

    -- and decide to those bytes
    pub accepted-bytes : (j : ℕ) → j < 122 → d j < 256 → byte_of (decided_data m v) j ≡ d j
    accepted-bytes j lt byte = byte-same (decided_data m v) (packet_bit d) decided-sent j lt ∙ bytes_back d j lt byte

-- The bits of the data, then those of their check word, and the zeros that were there.
use mathlib.Core.Path.{◌≡◌, sym, ap, ◌∙◌}
use mathlib.Core.List.{List}
use Prim.Native.Nat.{ℕ, ◌+◌, ◌<◌, ◌≤◌, ◌-◌}
use native.Mathlib.Decide.{dec_lt}
use native.Mathlib.Omega.{arith}
use lib.ListN.{length, replicate, length-replicate, get_or-replicate}
use Rattle.std.specs.Int.{to_be_bytes, w16}
use Rattle.rules.specs.Bits.{row, bit_of, byte_bit}
use Rattle.rules.specs.Packet.{packet_bit, check_word}
use Rattle.laws.specs.Holds.{Holds}
use Rattle.laws.specs.Parts.{part, part-long, put_part, put-long, put-before, put_in, put-after}
use Rattle.packet.proofs.Bits.{data-bit, check-bit, zero_bit, word_same, word-front, word-bit}
use Rattle.packet.proofs.bits_of.Goals as goal

abbrev zeros : List ℕ
zeros = replicate 1000 0

zeros-long : length zeros ≡ 1000
zeros-long = length-replicate {A = ℕ} 1000 0

-- the data's bits in their place
abbrev with_data : List ℕ → List ℕ
with_data y = put_part 0 976 zeros y

module _ (d : ℕ → ℕ) (y : List ℕ) (h : Holds 0 976 (byte_bit d) y) where
  y-long : length y ≡ 976 - 0
  y-long = h.long

  with-long : length (with_data y) ≡ 1000
  with-long = put-long 0 976 zeros (omega arith) (omega (arith, zeros-long)) y y-long ∙ zeros-long

  data-in : (k : ℕ) → k < 976 → row (with_data y) k ≡ packet_bit d k
  data-in k lt =
      let place : k ≡ 0 + k = omega arith in
      ap (row (with_data y)) place ∙ put_in 0 976 zeros (omega arith) (omega (arith, zeros-long)) y y-long k 0 (omega arith)
      ∙ h.each k lt ∙ sym (data-bit d k lt)

  rest-in : (k : ℕ) → k < 24 → row (with_data y) (976 + k) ≡ 0
  rest-in k lt =
      put-after 0 976 zeros (omega arith) (omega (arith, zeros-long)) y y-long k 0 ∙ get_or-replicate 1000 (976 + k) 0 0 (omega arith)

  -- the word of the bits that are there is the data's
  word-is : (w : ℕ) → w ≡ check_word (row (part 0 976 (with_data y))) (length (part 0 976 (with_data y))) → w ≡ check_word (byte_bit d) 976
  word-is w is =
      is ∙ word-front (with_data y) (omega (arith, with-long)) ∙ word_same (row (with_data y)) (byte_bit d) 976 (λ k lt. data-in k lt ∙ data-bit d k lt)

  whole : (w : ℕ) (z : List ℕ) → w ≡ check_word (byte_bit d) 976 → Holds 0 16 (byte_bit (row (to_be_bytes w16 w))) z
      → Holds 0 1000 (packet_bit d) (put_part 976 992 (with_data y) z)
  whole w z is made = record { long = put-long 976 992 (with_data y) (omega arith) to z made.long ∙ with-long; each = each }
    where
      to : 992 ≤ length (with_data y)
      to = omega (arith, with-long)

      each : (k : ℕ) → k < 1000 → row (put_part 976 992 (with_data y) z) k ≡ packet_bit d k
      each k lt = go (dec_lt k 976) (dec_lt k 992)
        where
          go : Dec (k < 976) → Dec (k < 992) → row (put_part 976 992 (with_data y) z) k ≡ packet_bit d k
          go (yes a) b = put-before 976 992 (with_data y) (omega arith) to z made.long k 0 a ∙ data-in k a
          go (no a) (yes b) =
              let place : 976 + (k - 976) ≡ k = omega arith in
              ap (row (put_part 976 992 (with_data y) z)) (sym place)
              ∙ put_in 976 992 (with_data y) (omega arith) to z made.long (k - 976) 0 (omega arith) ∙ made.each (k - 976) (omega arith)
              ∙ word-bit w (k - 976) (omega arith) ∙ ap (λ (v : ℕ). bit_of 16 v (k - 976)) is ∙ sym (check-bit d (k - 976) (omega arith))
              ∙ ap (packet_bit d) place
          go (no a) (no b) =
              let place : 992 + (k - 992) ≡ k = omega arith in
              let there : 992 + (k - 992) ≡ 976 + (k - 976) = omega arith in
              ap (row (put_part 976 992 (with_data y) z)) (sym place)
              ∙ put-after 976 992 (with_data y) (omega arith) to z made.long (k - 992) 0
              ∙ ap (row (with_data y)) there ∙ rest-in (k - 976) (omega arith) ∙ sym (zero_bit d k (omega arith))

pub slice_bounds-check_of-end : goal.slice_bounds-check_of-end
slice_bounds-check_of-end c =
    let y = c.write_bits.new.bits in
    sym (part-long 0 976 (with_data y) (omega arith) (omega (arith, with-long (row c.args.«data») y c.write_bits.ensures)))

pub returns : goal.returns
returns c =
    let d = row c.args.«data» in
    let y = c.write_bits.new.bits in
    whole d y c.write_bits.ensures c.check_of.result c.write_bits-2.new.bits (word-is d y c.write_bits.ensures c.check_of.result c.check_of.ensures)
    (rw (part-long 976 992 (with_data y) (omega arith) (omega (arith, with-long d y c.write_bits.ensures)), c.to_be_bytes-word.ensures) at c.write_bits-2.ensures)

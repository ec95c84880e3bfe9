-- Two packets whose coded bits differ in at most three places have the same coded bits.
use mathlib.Core.Path.{◌≡◌, sym, ap, ◌∙◌}
use Prim.Native.Nat.{ℕ, ◌+◌, ◌<◌, ◌≤◌}
use native.Mathlib.Nat.{le_trans}
use native.Mathlib.Decide.{dec_lt}
use native.Mathlib.Omega.{arith}
use lib.Dec.{T, eqb}
use lib.Ieee.Fits.{eq→eqb}
use Rattle.rules.specs.Bits.{bit_of, byte_bit, differ}
use Rattle.rules.specs.Packet.{packet_bit, check_word}
use Rattle.rules.specs.Interleaver.{bit_deinterleaved}
use Rattle.rules.specs.Turbo.{data_place}
use Rattle.rules.specs.Modes.{rate, packet_bits}
use Rattle.rules.specs.Slots.{coded}
use Rattle.rules.specs.Block.{check_right}
use Rattle.laws.specs.Every.{every_of}
use Rattle.packet.proofs.Bits.{word_same, data-bit, check-bit, zero_bit, packet-bit-lt}
use Rattle.packet.proofs.Distance.{distance}
use Rattle.turbo.proofs.Modes.{sent-lt, decided-coded, coded-same}
use Rattle.card.proofs.Differ.{differ-through}

-- a packet's bits are right by the check rule
packet-right : (e : ℕ → ℕ) → T (check_right (packet_bit e))
packet-right e =
    every_of 16 (λ i. eqb (packet_bit e (976 + i)) (bit_of 16 (check_word (packet_bit e) 976) i))
    (λ i l. eq→eqb (check-bit e i l ∙ ap (λ (w : ℕ). bit_of 16 w i) (sym (word_same (packet_bit e) (byte_bit e) 976 (data-bit e)))))

module _ (m : ℕ) where
  -- where bit i of a packet is sent
  place : ℕ → ℕ
  place i = bit_deinterleaved (packet_bits m) (data_place (rate m) i)

  -- no two are sent in one place: the row that holds i at i comes back
  place-apart : (i j : ℕ) → i < 994 → j < 994 → place i ≡ place j → i ≡ j
  unfolding place
  place-apart i j hi hj e =
      sym (decided-coded m (λ k. k) i hi) ∙ ap (coded m (λ k. k)) e ∙ decided-coded m (λ k. k) j hj

  -- rows a and b stand for the coded bits: these are the same wherever a and b are
  pub few-same : (d e a b : ℕ → ℕ)
      → ((i : ℕ) → i < packet_bits m → a i ≡ b i → coded m (packet_bit d) i ≡ coded m (packet_bit e) i)
      → differ (packet_bits m) a b ≤ 3
      → (i : ℕ) → i < packet_bits m → coded m (packet_bit d) i ≡ coded m (packet_bit e) i
  unfolding place
  few-same d e a b stand few = coded-same m (packet_bit d) (packet_bit e) (λ i l. go i l (dec_lt i 992))
    where
      at : (i : ℕ) → i < 994 → a (place i) ≡ b (place i) → packet_bit d i ≡ packet_bit e i
      at i l q =
          sym (decided-coded m (packet_bit d) i l) ∙ stand (place i) (sent-lt m i l) q ∙ decided-coded m (packet_bit e) i l

      most : differ 992 (packet_bit d) (packet_bit e) ≤ 3
      most =
          le_trans
          (differ-through 992 (packet_bits m) (packet_bit d) (packet_bit e) a b place (λ i l. sent-lt m i (omega arith))
          (λ i j k l. place-apart i j (omega arith) (omega arith)) (λ i l. at i (omega arith)))
          few

      go : (i : ℕ) → i < 994 → Dec (i < 992) → packet_bit d i ≡ packet_bit e i
      go i l (yes h) =
          distance (packet_bit d) (packet_bit e) (λ k u. packet-bit-lt d k) (λ k u. packet-bit-lt e k) (packet-right d) (packet-right e) most i h
      go i l (no h) = zero_bit d i (omega arith) ∙ sym (zero_bit e i (omega arith))

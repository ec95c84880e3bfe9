-- A packet's coded bits in each mode: places among the streams, read through the bit interleaver. All that is asked of a mode is in its figures.
use mathlib.Core.Path.{◌≡◌, sym, ap, ap₂, ◌∙◌}
use mathlib.Core.List.{List}
use Prim.Native.Nat.{ℕ, ◌+◌, ◌*◌, ◌/◌, ◌%◌, ◌<◌, ◌≤◌}
use native.Mathlib.Nat.{div-add-mod, mul-le-mul_left}
use native.Mathlib.Omega.{arith}
use lib.Dec.{eqb}
use Rattle.rules.specs.Bits.{row}
use Rattle.rules.specs.Interleaver.{table_d, interleaved, bit_interleaved, bit_deinterleaved}
use Rattle.rules.specs.Turbo.{coded_bit, data_place}
use Rattle.rules.specs.Modes.{rate, packet_bits}
use Rattle.rules.specs.Slots.{second, coded}
use Rattle.rules.specs.Block.{decided_data}
use Rattle.laws.specs.Every.{every-same}
use Rattle.laws.specs.Filled.{up_to-below}
use Rattle.interleaver.proofs.Interleaving.{interleaved5-lt}
use Rattle.modes.proofs.Figures.{figures}
use Rattle.patterns.specs.Places.{Places, OwnPlaces, place, sent_place}
use Rattle.patterns.proofs.Rates.{place-lt}
use Rattle.patterns.proofs.Modes.{column-lt, own-lt, own-sent-lt}
use Rattle.turbo.specs.Streams.{stream}
use Rattle.turbo.specs.Coded.{same_bits, sent_from}
use Rattle.turbo.proofs.Streams.{coded-stream, own-coded, stream-bit, stream-same}

-- ---- the bit interleaver, over any number of bits that four divides

module _ (L : ℕ) (four : L ≡ 4 * (L / 4)) where
  interleaved-lt : (i : ℕ) → i < L → bit_interleaved L i < L
  interleaved-lt i lt =
      let column : i % 4 ≤ 3 = omega arith in
      omega (arith, mul-le-mul_left (L / 4) column)

  deinterleaved-back : (n : ℕ) → n < L → bit_interleaved L (bit_deinterleaved L n) ≡ n
  deinterleaved-back n lt =
      let inside = column-lt L four n lt in
      let column : bit_deinterleaved L n % 4 ≡ n / (L / 4) = omega arith in
      let place : bit_deinterleaved L n / 4 ≡ n % (L / 4) = omega arith in
      ap₂ (λ (a b : ℕ). L / 4 * a + b) column place ∙ div-add-mod n (L / 4)

-- ---- the streams of a packet

second-same : (x y : ℕ → ℕ) → ((i : ℕ) → i < 994 → x i ≡ y i) → (i : ℕ) → i < 994 → second x i ≡ second y i
second-same x y same i lt = same (interleaved 5 (row table_d) 994 i) (interleaved5-lt i lt)

-- they go by its 994 bits
pub streams-same : (x y : ℕ → ℕ) → ((i : ℕ) → i < 994 → x i ≡ y i) → (k : ℕ) → stream x (second x) k ≡ stream y (second y) k
streams-same x y same = stream-same x (second x) y (second y) same (second-same x y same)

-- and are bits
pub streams-bit : (x : ℕ → ℕ) → ((i : ℕ) → i < 994 → x i < 2) → (k : ℕ) → stream x (second x) k < 2
streams-bit x bit = stream-bit x (second x) bit (λ i lt. bit (interleaved 5 (row table_d) 994 i) (interleaved5-lt i lt))

-- ---- the places

module _ (m : ℕ) where
  -- which of the bits before the bit interleaver is sent as bit i, and where that stands in the streams
  source-lt : (i : ℕ) → i < packet_bits m → bit_interleaved (packet_bits m) i < packet_bits m
  source-lt = interleaved-lt (packet_bits m) (figures m).four

  rate-place-lt : (n : ℕ) → n < packet_bits m → place (rate m) n < 3988
  rate-place-lt n lt = place-lt (rate m) n (rw (figures m).coded lt)

  -- as which bit x's own bit i is sent
  pub sent-lt : (i : ℕ) → i < 994 → bit_deinterleaved (packet_bits m) (data_place (rate m) i) < packet_bits m
  sent-lt = own-sent-lt (rate m) (packet_bits m) (figures m).coded (figures m).four

  -- what the tables have
  module _ (l : List ℕ) (held : Places m l) where
    pub place_read : (i : ℕ) → i < packet_bits m → row l i ≡ sent_place m i
    place_read i lt = held.each i (omega (arith, (figures m).most)) ∙ up_to-below (sent_place m) (λ k. 0) (packet_bits m) i lt

    pub place-read-lt : (i : ℕ) → i < packet_bits m → row l i < 3988
    place-read-lt i lt = rw (place_read i lt) (rate-place-lt _ (source-lt i lt))

  pub own-read-lt : (l : List ℕ) → OwnPlaces m l → (i : ℕ) → i < 994 → row l i < packet_bits m
  own-read-lt l held i lt = rw (held.each i lt) (sent-lt i lt)

-- ---- what is sent in each mode

module _ (m : ℕ) where
  -- bit i of what is sent, in the streams
  pub coded-at : (x : ℕ → ℕ) (i : ℕ) → i < packet_bits m → coded m x i ≡ stream x (second x) (sent_place m i)
  unfolding coded
  coded-at x i lt = coded-stream (rate m) x (second x) (bit_interleaved (packet_bits m) i) (rw (figures m).coded (source-lt m i lt))

  -- and in any row that has them
  pub sent-coded : (x g : ℕ → ℕ)
      → ((k : ℕ) → k < 3988 → g k ≡ stream x (second x) k)
      → (i : ℕ)
      → i < packet_bits m
      → sent_from m g i ≡ coded m x i
  sent-coded x g has i lt = has _ (rate-place-lt m _ (source-lt m i lt)) ∙ sym (coded-at x i lt)

  -- the data that the sent bits decide to
  pub decided-coded : (x : ℕ → ℕ) (i : ℕ) → i < 994 → decided_data m (coded m x) i ≡ x i
  unfolding coded
  decided-coded x i lt =
      ap (coded_bit (rate m) x (second x) 994) (deinterleaved-back (packet_bits m) (figures m).four (data_place (rate m) i) own_in)
      ∙ own-coded (rate m) x (second x) i lt
    where
      own_in : data_place (rate m) i < packet_bits m
      own_in = rw (figures m).coded at (own-lt (rate m) i lt)

  -- what is sent goes by the 994 bits, and is bits
  pub coded-same : (x y : ℕ → ℕ) → ((i : ℕ) → i < 994 → x i ≡ y i) → (i : ℕ) → i < packet_bits m → coded m x i ≡ coded m y i
  coded-same x y same i lt =
      coded-at x i lt ∙ streams-same x y same (sent_place m i) ∙ sym (coded-at y i lt)

  pub coded-bit : (x : ℕ → ℕ) → ((i : ℕ) → i < 994 → x i < 2) → (i : ℕ) → i < packet_bits m → coded m x i < 2
  coded-bit x bit i lt = rw (coded-at x i lt) (streams-bit x bit (sent_place m i))

  -- so bits are compared with what is sent by comparing them with the streams of the same 994 bits
  pub sent-same : (v x y g : ℕ → ℕ)
      → ((k : ℕ) → k < 3988 → g k ≡ stream x (second x) k)
      → ((i : ℕ) → i < 994 → x i ≡ y i)
      → same_bits (packet_bits m) v (sent_from m g) ≡ same_bits (packet_bits m) v (coded m y)
  sent-same v x y g has same =
      every-same (packet_bits m) (λ i. eqb (v i) (sent_from m g i)) (λ i. eqb (v i) (coded m y i))
      (λ i lt. ap (eqb (v i)) (sent-coded x g has i lt ∙ coded-same x y same i lt))

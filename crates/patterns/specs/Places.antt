-- The places of what is sent for a packet, among the four streams of 997 that the two encoders put out, X, Y0, X', Y'0, one after the other; and as which
-- bits the packet's own are sent.
use Rattle.std.specs.Prelude.{List, ℕ, ◌+◌, ◌-◌, ◌*◌, ◌/◌, ◌%◌, ltb, length, get_or}
use Rattle.rules.specs.Bits.{pick}
use Rattle.rules.specs.Interleaver.{bit_interleaved, bit_deinterleaved}
use Rattle.rules.specs.Turbo.{Output, Sent, X, Y0, X', Y'0, at, entered, period, pattern, tail, data_length, data_place}
use Rattle.rules.specs.Modes.{rate, packet_bits}
use Rattle.rules.specs.declared.Rate.{Rate}
use Rattle.laws.specs.Holds.{Holds}
use Rattle.laws.specs.Filled.{up_to}

-- a stream's number
abbrev pub stream_number : Output → ℕ
stream_number X = 0
stream_number Y0 = 1
stream_number X' = 2
stream_number Y'0 = 3

-- the place of an output, counted from period i
abbrev pub place_from : ℕ → Sent → ℕ
place_from i (at o k) = 997 * stream_number o + (i + k)

-- the place of bit n of what is sent
abbrev pub place : Rate → ℕ → ℕ
place R n =
    pick (ltb n (data_length R entered))
    (place_from (n / length (pattern R) * period R) (get_or (pattern R) (n % length (pattern R)) (at X 0)))
    (place_from entered (get_or (tail R) (n - data_length R entered) (at X 0)))

-- the place of bit n by tables: of a pattern's outputs, which are those of so many bits, below the data's length, then of an encoder's end
unfoldable pub place_by : List ℕ → ℕ → ℕ → List ℕ → ℕ → ℕ
place_by ls bits long ts n =
    pick (ltb n long) (n / length ls * bits + get_or ls (n % length ls) 0)
    (1994 * ((n - long) / length ts) + get_or ts ((n - long) % length ts) 0)

-- the place, among the four streams, of what is sent as bit i
abbrev pub sent_place : ℕ → ℕ → ℕ
sent_place m i = place (rate m) (bit_interleaved (packet_bits m) i)

-- as which bit the packet's own bit i is sent
abbrev pub own_place : ℕ → ℕ → ℕ
own_place m i = bit_deinterleaved (packet_bits m) (data_place (rate m) i)

-- the tables that serve every packet of a block: the places of what is sent, and as which bits the packet's own are sent
abbrev pub Places : ℕ → List ℕ → Type 0
Places m l = Holds 0 3000 (up_to (packet_bits m) (sent_place m) (λ i. 0)) l

abbrev pub OwnPlaces : ℕ → List ℕ → Type 0
OwnPlaces m l = Holds 0 994 (own_place m) l

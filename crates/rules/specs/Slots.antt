-- Document 01, "Slots, scrambling, points": the bits of a block, slots and scrambling. A block is 16 packets, each a row of 122 bytes.
use Rattle.std.specs.Prelude.{ℕ, zero, suc, ◌+◌, ◌*◌, ◌/◌, ◌%◌, ◌^◌, min}
use Rattle.rules.specs.Bits.{row}
use Rattle.rules.specs.Packet.{packet_bit}
use Rattle.rules.specs.Interleaver.{table_d, interleaved, bit_interleaved}
use Rattle.rules.specs.Turbo.{entered, coded_bit}
use Rattle.rules.specs.Modes.{rate, packet_bits}

-- ---- the bits of a packet, coded and interleaved

-- the interleaved row that the second encoder reads
abbrev pub second : (ℕ → ℕ) → ℕ → ℕ
second x i = x (interleaved 5 (row table_d) entered i)

-- bit i of what is sent for the 994 bits x
unfoldable pub coded : ℕ → (ℕ → ℕ) → ℕ → ℕ
coded m x i = coded_bit (rate m) x (second x) entered (bit_interleaved (packet_bits m) i)

-- bit g of a block: packets follow one another through the slots without gaps, so a packet of 16QAM may begin inside a slot
abbrev pub block_bit : ℕ → (ℕ → ℕ → ℕ) → ℕ → ℕ
block_bit m packets g = coded m (packet_bit (packets (g / packet_bits m))) (g % packet_bits m)

-- ---- where a slot goes

abbrev pub symbol_of : ℕ → ℕ
symbol_of t = t / 7

abbrev pub slot_number : ℕ → ℕ
slot_number t = 1 + t % 7

-- ---- scrambling, h = D^20 + D^17 + 1

unfoldable pub scrambler_step : ℕ → ℕ
scrambler_step s = s * 2 % 2 ^ 20 + (s / 2 ^ 19 + s / 2 ^ 16) % 2

unfoldable pub scrambler_state : ℕ → ℕ → ℕ
scrambler_state seed zero = seed
scrambler_state seed (suc i) = scrambler_step (scrambler_state seed i)

-- how many of the w lowest bits both numbers have
unfoldable pub both : ℕ → ℕ → ℕ → ℕ
both zero a b = 0
both (suc w) a b = min (a % 2) (b % 2) + both w (a / 2) (b / 2)

-- each step outputs the parity of state AND mask
abbrev pub scrambling : ℕ → ℕ → ℕ → ℕ
scrambling seed mask i = both 20 (scrambler_state seed i) mask % 2

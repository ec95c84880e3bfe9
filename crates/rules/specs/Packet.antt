-- Document 01, "Packet and check word". A packet's data is a row of 122 bytes.
use Rattle.std.specs.Prelude.{ℕ, zero, suc, ◌+◌, ◌-◌, ◌*◌, ◌/◌, ◌%◌, ◌^◌, ltb}
use Rattle.std.specs.Int.Bits.{bit_xor}
use Rattle.rules.specs.Bits.{pick, bit_of, byte_bit}

-- x^16 leaves x^12 + x^5 + 1
abbrev pub check_polynomial : ℕ
check_polynomial = 0b1_0000_0010_0001

-- the register after one bit more
unfoldable pub check_step : ℕ → ℕ → ℕ
check_step s b = bit_xor (s * 2 % 2 ^ 16) ((s / 2 ^ 15 + b) % 2 * check_polynomial)

-- the register starts at all ones
unfoldable pub check_register : (ℕ → ℕ) → ℕ → ℕ
check_register x zero = 2 ^ 16 - 1
check_register x (suc n) = check_step (check_register x n) (x n)

-- the check word of the bits x below n: the remainder is sent complemented
unfoldable pub check_word : (ℕ → ℕ) → ℕ → ℕ
check_word x n = 2 ^ 16 - 1 - check_register x n

-- 1000 bits: 976 data bits, 16 check bits, highest bit first, 2 reserved zeros, 6 tail zeros
unfoldable pub packet_bit : (ℕ → ℕ) → ℕ → ℕ
packet_bit d i = pick (ltb i 976) (byte_bit d i) (pick (ltb i 992) (bit_of 16 (check_word (byte_bit d) 976) (i - 976)) 0)

-- Each table of the rules, held against something that a wrong digit breaks.
use mathlib.Core.Path.{◌≡◌, refl}
use mathlib.Core.Bool.{Bool, true, ◌&&◌}
use mathlib.Core.List.{List, [], ◌∷◌}
use Prim.Native.Nat.{ℕ, zero, suc, ◌+◌, ◌-◌, ◌*◌, ◌/◌, ◌%◌}
use lib.Dec.{T, eqb, ltb}
use lib.Ieee.{Float, binary32, of_bits, neg, add, sub, mul, lt}
use Rattle.rules.specs.Bits.{every_below, passing, first_of, row, bit_of, as_number, byte_bit}
use Rattle.rules.specs.Packet.{check_step, check_register, check_word}
use Rattle.rules.specs.Field.{◌⊕◌, ◌⊗◌, double, times, alpha}
use Rattle.rules.specs.Outer.{generator}
use Rattle.rules.specs.Kept.{next_kept, counter, count}
use Rattle.rules.specs.Interleaver.{table_d}
use Rattle.rules.specs.Turbo.{state, ending, coded_bit, coded_length}
use Rattle.rules.specs.Cells.{place_of, point_at}
use Rattle.rules.specs.Answers.{is_number, is_adding_number, names_field, is_answer, is_reason, has_read}
use Rattle.rules.specs.Profile.{Tested, Field, fields, blank}
use Rattle.rules.specs.Modes.{mode, slot_bits, packet_bits, slots, symbols}
use Rattle.rules.specs.Points.{twice, sign_of, near_end, far_end, size_of, decide}
use Rattle.rules.specs.Pieces.{state_bytes, cell_byte, is_cell_byte}
use Rattle.rules.specs.declared.Profile.{Profile}
use Rattle.rules.specs.declared.Rate.{Rate}
use Rattle.rules.specs.declared.Rate.TheVariants.{Half, Third, TwoThirds}

-- the f32 of some bits
abbrev f32 : ℕ → Float
f32 = of_bits binary32

-- the coefficients of f times x + a, from the highest on; b is the one before f's first, 0 at the beginning
abbrev pub times_root : ℕ → ℕ → List ℕ → List ℕ
times_root a b [] = (a ⊗ b) ∷ []
times_root a b (c ∷ f) = (a ⊗ b ⊕ c) ∷ times_root a c f

-- of f times x + a, x + αa, x + α²a, .., n such factors
abbrev pub times_roots : ℕ → ℕ → List ℕ → List ℕ
times_roots zero a f = f
times_roots (suc n) a f = times_roots n (double a) (times_root a 0 f)

-- the generator is the product of x + α^e for e from 128 - r/2 to 127 + r/2
abbrev pub HasRoots : ℕ → Type 0
HasRoots r = times_roots r (alpha (128 - r / 2)) (1 ∷ []) ≡ 1 ∷ first_of r (generator r)

-- The generators and the field's polynomial
pub generators : HasRoots 8 × HasRoots 4 × HasRoots 2
unfolding generator alpha ◌⊗◌ double times
generators = (refl, refl, refl)

-- The check polynomial: the nine ASCII digits 123456789 give hex D64E
pub nine-digits : check_word (byte_bit (row (49 ∷ 50 ∷ 51 ∷ 52 ∷ 53 ∷ 54 ∷ 55 ∷ 56 ∷ 57 ∷ []))) 72 ≡ 0xD64E
unfolding check_word check_register check_step
nine-digits = refl

-- The table D, as 32 bytes, has the check word that a program outside worked out from the text of source 002
pub table_d-checked : check_word (byte_bit (row table_d)) 256 ≡ 0x8AAE
unfolding check_word check_register check_step
table_d-checked = refl

-- what is sent at a rate for four bits, with four others in place of the interleaved ones
abbrev pub sent_four : Rate → ℕ → ℕ → ℕ
sent_four R x x' = as_number (coded_length R 4) (coded_bit R (bit_of 4 x) (bit_of 4 x') 4)

-- The patterns and tails of both rates, against a program outside. These four pairs of rows tell any entry from any other that could stand
-- in its place, but for the ending period 2, where X and Y0 are the same bit by the circuit
pub half-sent : sent_four Half 0b0100 0b1110 ∷ sent_four Half 0b0010 0b0111 ∷ sent_four Half 0b0000 0b0011 ∷ sent_four Half 0b0001 0b0001 ∷ []
    ≡ 0x25AF0 ∷ 0x1DB1C ∷ 0x37 ∷ 0x36DB ∷ []
unfolding coded_bit state ending
half-sent = refl

pub third-sent : sent_four Third 0b0100 0b1110 ∷ sent_four Third 0b0010 0b0111 ∷ sent_four Third 0b0000 0b0011 ∷ sent_four Third 0b0001 0b0001 ∷ []
    ≡ 0xE6F6FC0 ∷ 0x1CF7078 ∷ 0x2001CF ∷ 0x1CEE77 ∷ []
unfolding coded_bit state ending
third-sent = refl

-- Rate 2/3 for six bits, of which the last two have a part of a pattern, in the same way
abbrev pub sent_six : Rate → ℕ → ℕ → ℕ
sent_six R x x' = as_number (coded_length R 6) (coded_bit R (bit_of 6 x) (bit_of 6 x') 6)

pub two-thirds-sent : sent_six TwoThirds 0b010010 0b000100 ∷ sent_six TwoThirds 0b010100 0b111001 ∷ sent_six TwoThirds 0b110110 0b011100
    ∷ sent_six TwoThirds 0b111001 0b011100 ∷ []
    ≡ 0x997D ∷ 0xB14B ∷ 0x3BCC5 ∷ 0x3D3B5 ∷ []
unfolding coded_bit state ending
two-thirds-sent = refl

-- The table of what the desk says back has these numbers and no other below a byte's 256, receiving reads the cells at these, and gives these reasons
pub numbers-listed : passing 256 0 is_number ≡ 0 ∷ 1 ∷ 2 ∷ 3 ∷ 5 ∷ 6 ∷ 7 ∷ 8 ∷ 9 ∷ 10 ∷ 16 ∷ 17 ∷ 18 ∷ 22 ∷ 40 ∷ 41 ∷ 42 ∷ 43 ∷ 44 ∷ 45 ∷ 46 ∷ []
numbers-listed = refl

-- and with those of Req 09
pub adding-numbers-listed : passing 256 0 is_adding_number ≡ 0 ∷ 1 ∷ 2 ∷ 3 ∷ 5 ∷ 6 ∷ 7 ∷ 8 ∷ 9 ∷ 10 ∷ 16 ∷ 17 ∷ 18 ∷ 19 ∷ 22 ∷ 23 ∷ 40 ∷ 41 ∷ 42 ∷ 43 ∷ 44 ∷ 45 ∷ 46 ∷ []
adding-numbers-listed = refl

-- of these, the ones that name a field, and the ones that have a place
pub named-listed : passing 256 0 names_field ≡ 40 ∷ 41 ∷ 42 ∷ 43 ∷ 44 ∷ 45 ∷ []
named-listed = refl

pub placed-listed : passing 256 0 (λ n. is_answer n 3) ≡ 40 ∷ 41 ∷ 42 ∷ 43 ∷ 44 ∷ 45 ∷ 46 ∷ []
placed-listed = refl

-- how many bytes the numbers of each field have
abbrev pub sizes : List Tested → ℕ
sizes [] = 0
sizes (x ∷ xs) = x.size + sizes xs

abbrev pub sizes_of : List Field → Profile → List ℕ
sizes_of [] p = []
sizes_of (f ∷ fs) p = sizes (f.tested p) ∷ sizes_of fs p

-- In mode 0, where every seed is in use, they are as many as document 01 gives the fields' values
pub sizes-listed : sizes_of fields blank ≡ 32 ∷ 4 ∷ 1 ∷ 1 ∷ 192 ∷ 4 ∷ []
unfolding mode slot_bits packet_bits slots
sizes-listed = refl

pub read-listed : passing 256 0 has_read ≡ 0 ∷ 9 ∷ 10 ∷ []
read-listed = refl

pub reasons-listed : passing 256 0 is_reason ≡ 0 ∷ 11 ∷ 12 ∷ 13 ∷ 14 ∷ 15 ∷ []
reasons-listed = refl

-- The state has room for the largest grid. A cell's byte is one of these; of QPSK 1.0 is bit 0, -1.0 bit 1 and 0.0 doubtful
pub state-room : state_bytes ≡ 2 + 4096 * symbols 0
unfolding mode slot_bits packet_bits slots
state-room = refl

pub bytes-listed : passing 256 0 (is_cell_byte 1) ≡ 0 ∷ 1 ∷ 2 ∷ 3 ∷ 4 ∷ 5 ∷ 6 ∷ 7 ∷ 8 ∷ []
bytes-listed = refl

pub more-bytes-listed : passing 256 0 (is_cell_byte 2) ≡ passing 25 0 (λ b. true)
more-bytes-listed = refl

abbrev one_byte : ℕ → ℕ → ℕ
one_byte a b = cell_byte 1 (f32 0x3F80_0000) (f32 0) (f32 a) (f32 b)

pub bytes-made : one_byte 0xBF80_0000 0x3F80_0000 ∷ one_byte 0x3F80_0000 0xBF80_0000 ∷ one_byte 0 0xBF80_0000 ∷ one_byte 0x3F80_0000 0 ∷ one_byte 0 0 ∷ []
    ≡ 1 ∷ 3 ∷ 5 ∷ 6 ∷ 8 ∷ []
unfolding decide sign_of of_bits lt neg
bytes-made = refl

-- and of 16QAM at level 1.0: 3.0 and 1.0, -3.0 and -1.0, 1.0 and 3.0, 0.0 and -3.0, 2.0 and -2.0
abbrev two_byte : ℕ → ℕ → ℕ
two_byte a b = cell_byte 2 (f32 0x3F80_0000) (f32 0) (f32 a) (f32 b)

pub more-bytes-made : two_byte 0x4040_0000 0x3F80_0000 ∷ two_byte 0xC040_0000 0xBF80_0000 ∷ two_byte 0x3F80_0000 0x4040_0000 ∷ two_byte 0 0xC040_0000
    ∷ two_byte 0x4000_0000 0xC000_0000 ∷ []
    ≡ 10 ∷ 16 ∷ 2 ∷ 9 ∷ 24 ∷ []
unfolding decide sign_of size_of near_end far_end twice of_bits lt mul add sub neg
more-bytes-made = refl

-- The order of points and its inverse as lists, so that each entry is worked out once
abbrev pub order : List ℕ
order = first_of 500 place_of

abbrev pub back : List ℕ
back = first_of 500 point_at

-- both stay below 500, and each of the two is the other's inverse
abbrev pub inverse : ℕ → Bool
inverse i = ltb (row order i) 500 && (ltb (row back i) 500 && (eqb (row back (row order i)) i && eqb (row order (row back i)) i))

-- As 500 numbers of nine bits the order has the check word that a program outside worked out from the sentence of Req 01, and it is 0 to 499 in another order
pub places-checked : (check_word (λ i. bit_of 9 (row order (i / 9)) (i % 9)) 4500 ≡ 0x7C6D) × T (every_below 500 inverse)
unfolding check_word check_register check_step place_of point_at next_kept counter count
places-checked = (refl, tt)

-- Document 01, "Bench examples", those marked P, and what document 02 names (Req 01 the places of points, Req 04 those of what is at fault in a profile,
-- Req 05 two grids side by side, Req 06 the modes of 16QAM, Req 07 the floor, Req 08 twin scrambling, Req 09 totals): what the rules give, and what the documents say.
use Rattle.std.specs.Prelude.{Some, ◌≡◌, List, [], ◌∷◌, ◌++◌, ℕ, suc, ◌+◌, ◌-◌, ◌/◌, ◌%◌, ◌^◌, eqb, length, replicate, take}
use Rattle.std.specs.Float.{binary32}
use Rattle.std.specs.Float.Ieee.{of_bits, to_bits}
use Rattle.rules.specs.Bits.{pick, row, passing, first_of}
use Rattle.rules.specs.Outer.{remainder}
use Rattle.rules.specs.Kept.{counter}
use Rattle.rules.specs.Interleaver.{table_d, address, bit_interleaved}
use Rattle.rules.specs.Turbo.{y0}
use Rattle.rules.specs.Modes.{is_mode, part_bits, slot_bits, packet_bits, slots, symbols}
use Rattle.rules.specs.Slots.{scrambling, symbol_of, slot_number}
use Rattle.rules.specs.Points.{triple, point_of, first_part, second_part, near_end, far_end, decide, bit_in}
use Rattle.rules.specs.Cells.{place_of, point_at, cell_of}
use Rattle.rules.specs.Profile.{fault, reading, written}
use Rattle.rules.specs.Block.{cell_for}
use Rattle.rules.specs.Compare.{grids, differing, difference, filled, comparing_number}
use Rattle.rules.specs.Totals.{totals_of, no_totals, plus, adding_number}
use Rattle.rules.specs.declared.Profile.{Profile}
use Rattle.rules.specs.declared.Receipt.{Receipt}

-- a row that is 1 at i and 0 elsewhere
abbrev pub only : ℕ → ℕ → ℕ
only i k = pick (eqb k i) 1 0

pub record Example : Type 0 where
  pub given : List ℕ
  pub said : List ℕ

abbrev pub Hold : List Example → Type 0
Hold [] = Unit {0}
Hold (e ∷ es) = (e.given ≡ e.said) × Hold es

-- a level for P11: 1.5
abbrev pub some_level : ℕ
some_level = 0x3FC0_0000

-- n ones, but x at i
abbrev pub ones_but : ℕ → ℕ → ℕ → List ℕ
ones_but n i x = replicate i 1 ++ (x ∷ replicate (n - 1 - i) 1)

-- eight masks, no two the same: then no two slots of a symbol are twins, whatever their seeds
abbrev pub eight : List ℕ
eight = first_of 8 suc

-- what a profile is refused with, as a value and as bytes; masks and seeds are given, and level and floor by their bits
abbrev pub with_floor : ℕ → List ℕ → ℕ → ℕ → ℕ → List ℕ → Profile
with_floor floor masks level mode k seeds =
    record { masks = masks; level = of_bits binary32 level; mode = mode; k = k; seeds = seeds; floor = of_bits binary32 floor }

-- with the floor +0.0
abbrev pub value_of : List ℕ → ℕ → ℕ → ℕ → List ℕ → Profile
value_of = with_floor 0

abbrev pub as_value : Profile → List ℕ
as_value P = (fault P).number ∷ (fault P).place ∷ []

abbrev pub as_bytes : Profile → List ℕ
as_bytes P = (reading (written P)).number ∷ (reading (written P)).place ∷ []

-- two differences
abbrev pub two_of : List (List ℕ)
two_of = (0 ∷ 0 ∷ 1 ∷ 2 ∷ 3 ∷ 4 ∷ []) ∷ (0 ∷ 1 ∷ 5 ∷ 6 ∷ 7 ∷ 8 ∷ []) ∷ []

-- 16QAM at level 1.0, as source 000 writes it: 3A, A, -A and -3A, by their bits
abbrev pub a3 : ℕ
a3 = 0x4040_0000

abbrev pub a1 : ℕ
a1 = 0x3F80_0000

abbrev pub n1 : ℕ
n1 = 0xBF80_0000

abbrev pub n3 : ℕ
n3 = 0xC040_0000

-- m_Q and m_I of the number that s3 s2 s1 s0 make
abbrev pub mapped : ℕ → List ℕ
mapped n =
    let p = point_of 2 (of_bits binary32 a1) (λ j. n / 2 ^ j % 2) in
    to_bits binary32 p.second ∷ to_bits binary32 p.first ∷ []

-- the two parts of point 1 of block slot 2, where of all bits only bit b of that slot is 1
abbrev pub carrying : ℕ → ℕ → List ℕ
carrying w b =
    let c = cell_for w (of_bits binary32 a1) (λ t i. pick (eqb t 2) (only b i) 0) (Some (record { slot = 2; point = 1 })) in
    to_bits binary32 (first_part c) ∷ to_bits binary32 (second_part c) ∷ []

-- what a part of w bits, given by its own bits, decides to at level 1.5 and a floor, given by its bits
abbrev pub decided_at : ℕ → ℕ → ℕ → ℕ
decided_at floor w part = decide w (of_bits binary32 some_level) (of_bits binary32 floor) (of_bits binary32 part)

-- of 16QAM with the floor +0.0, where the lines are at 3.0 and -3.0
abbrev pub decided : ℕ → ℕ
decided = decided_at 0 2

-- with the floor 0.5, of QPSK and of 16QAM: the ranges run from -0.5 to 0.5, from 2.5 to 3.5 and from -3.5 to -2.5
abbrev pub weighed : ℕ → ℕ
weighed = decided_at 0x3F00_0000 1

abbrev pub weighed_two : ℕ → ℕ
weighed_two = decided_at 0x3F00_0000 2

-- the ends of the range around 2D, by their bits, at a level and a floor by theirs
abbrev pub ends_of : ℕ → ℕ → List ℕ
ends_of level floor =
    to_bits binary32 (near_end (of_bits binary32 level) (of_bits binary32 floor))
    ∷ to_bits binary32 (far_end (of_bits binary32 level) (of_bits binary32 floor))
    ∷ []

-- a profile that is good but for its floor, in mode 0, by that one's bits
abbrev pub floored : ℕ → Profile
floored floor = with_floor floor eight some_level 0 14 (replicate 48 1)

-- the seeds 1, 2, .. of n slots, of which slot t has slot u's
abbrev pub seeds_with : ℕ → ℕ → ℕ → List ℕ
seeds_with n u t = first_of n (λ i. suc (pick (eqb i t) u i)) ++ replicate (48 - n) 0

-- a profile in a mode of n slots in which all masks are the same, and slot t has the seed of slot u; with slot t itself no two are the same
abbrev pub twinned : ℕ → ℕ → ℕ → ℕ → Profile
twinned mode n u t = value_of (replicate 8 1) some_level mode 14 (seeds_with n u t)

-- one in mode 0 in which all seeds are the same
abbrev pub masked : List ℕ → Profile
masked masks = value_of masks some_level 0 14 (replicate 48 1)

-- the largest level whose triple is finite, by its bits
abbrev pub most_tripled : ℕ
most_tripled = 0x7EAA_AAAA

-- a receipt: number, lost mask and reasons
abbrev pub receipt : ℕ → ℕ → List ℕ → Receipt
receipt number lost reasons = record { number = number; place = 0; lost = lost; reasons = reasons }

-- reason x for packet i, and 0 for the others
abbrev pub one_lost : ℕ → ℕ → List ℕ
one_lost i x = replicate i 0 ++ (x ∷ replicate (15 - i) 0)

-- a block of which nothing is lost; two lost in a block that ended in 0; document 01's report; two lost in a block that ended in 10; no block
abbrev pub all_came : Receipt
all_came = receipt 0 0 (replicate 16 0)

abbrev pub restored_two : Receipt
restored_two = receipt 0 0x8001 ((12 ∷ replicate 14 0) ++ (13 ∷ []))

abbrev pub three_marked : Receipt
three_marked = receipt 9 548 (0 ∷ 0 ∷ 11 ∷ 0 ∷ 0 ∷ 11 ∷ 0 ∷ 0 ∷ 0 ∷ 11 ∷ replicate 6 0)

abbrev pub none_agrees : Receipt
none_agrees = receipt 10 9 (14 ∷ 0 ∷ 0 ∷ 15 ∷ replicate 12 0)

abbrev pub no_block : Receipt
no_block = receipt 7 0xFFFF (0 ∷ 11 ∷ 12 ∷ 13 ∷ 14 ∷ 15 ∷ replicate 10 200)

-- a position that was accepted n times, and never lost
abbrev pub all_of : ℕ → List ℕ
all_of n = n ∷ replicate 7 0

-- the totals of these five receipts, worked out by hand: positions 0 to 3, 4 to 9, 10 to 15
abbrev pub of_five : List ℕ
of_five =
    (2 ∷ 1 ∷ 1 ∷ 0 ∷ 1 ∷ 0 ∷ 1 ∷ 0 ∷ []) ++ all_of 4 ++ (3 ∷ 0 ∷ 1 ∷ 1 ∷ 0 ∷ 0 ∷ 0 ∷ 0 ∷ []) ++ (3 ∷ 0 ∷ 1 ∷ 0 ∷ 0 ∷ 0 ∷ 0 ∷ 1 ∷ [])
    ++ all_of 4 ++ (3 ∷ 0 ∷ 1 ∷ 1 ∷ 0 ∷ 0 ∷ 0 ∷ 0 ∷ []) ++ all_of 4 ++ all_of 4 ++ all_of 4 ++ (3 ∷ 0 ∷ 1 ∷ 1 ∷ 0 ∷ 0 ∷ 0 ∷ 0 ∷ [])
    ++ all_of 4 ++ all_of 4 ++ all_of 4 ++ all_of 4 ++ all_of 4 ++ (3 ∷ 1 ∷ 0 ∷ 0 ∷ 0 ∷ 1 ∷ 0 ∷ 0 ∷ [])

-- totals of zero, but x at i
abbrev pub zeros_but : ℕ → ℕ → List ℕ
zeros_but i x = replicate i 0 ++ (x ∷ replicate (127 - i) 0)

abbrev pub examples : List Example
examples =
    -- P1 first encoder, 1 then zeros
    record { given = first_of 8 (y0 (only 0)); said = 1 ∷ 1 ∷ 1 ∷ 1 ∷ 0 ∷ 0 ∷ 1 ∷ 0 ∷ [] }
    -- P2 turbo addresses for m = 0, 1, 2
    ∷ record { given = first_of 3 (address 5 (row table_d)); said = 27 ∷ 515 ∷ 257 ∷ [] }
    -- P3 m = 31 gives 1005, skipped, so that the kept counters go from 30 to 32; m = 32 gives 22
    ∷ record {
      given = address 5 (row table_d) 31 ∷ counter (address 5 (row table_d)) 1024 994 30 ∷ counter (address 5 (row table_d)) 1024 994 31 ∷ address 5 (row table_d) 32 ∷ [];
      said = 1005 ∷ 30 ∷ 32 ∷ 22 ∷ [];
    }
    -- P4 r = 2, only packet 13 is 01
    ∷ record { given = first_of 2 (remainder 2 (only 13) 14); said = 0x49 ∷ 0x01 ∷ [] }
    -- P5 r = 4, only packet 11 is 01
    ∷ record { given = first_of 4 (remainder 4 (only 11) 12); said = 0x38 ∷ 0xCF ∷ 0x38 ∷ 0x01 ∷ [] }
    -- P6 L = 2000: first outputs
    ∷ record { given = first_of 4 (bit_interleaved 2000); said = 0 ∷ 500 ∷ 1000 ∷ 1500 ∷ [] }
    -- P7 seed 1, mask 1: the ones among outputs 0 to 20
    ∷ record { given = passing 21 0 (λ i. eqb (scrambling 1 1 i) 1); said = 0 ∷ 17 ∷ 20 ∷ [] }
    -- P8 interlace 0, places 249 and 250
    ∷ record { given = cell_of 0 249 ∷ cell_of 0 250 ∷ []; said = 2040 ∷ 2056 ∷ [] }
    -- P9 interlace 3: first and last
    ∷ record { given = cell_of 3 0 ∷ cell_of 3 499 ∷ []; said = 51 ∷ 4043 ∷ [] }
    -- P10 block slots 7 and 47: symbol and slot number
    ∷ record { given = symbol_of 7 ∷ slot_number 7 ∷ symbol_of 47 ∷ slot_number 47 ∷ []; said = 1 ∷ 1 ∷ 6 ∷ 6 ∷ [] }
    -- P11 (s0, s1) = (1, 0) is (-D, D), by their bits
    ∷ record {
      given = to_bits binary32 (point_of 1 (of_bits binary32 some_level) (row (1 ∷ 0 ∷ []))).first
          ∷ to_bits binary32 (point_of 1 (of_bits binary32 some_level) (row (1 ∷ 0 ∷ []))).second
          ∷ [];
      said = 0xBFC0_0000 ∷ 0x3FC0_0000 ∷ [];
    }
    -- P12 part -0.0: doubtful
    ∷ record { given = decided_at 0 1 0x8000_0000 ∷ []; said = 2 ∷ [] }
    -- Req 01 the first kept places, and the points there
    ∷ record { given = first_of 3 place_of; said = 0 ∷ 256 ∷ 128 ∷ [] }
    ∷ record { given = point_at 0 ∷ point_at 256 ∷ point_at 128 ∷ []; said = 0 ∷ 1 ∷ 2 ∷ [] }
    -- Req 04 a faulty mask, the first, one in the middle and the last; the first of two
    ∷ record { given = as_value (value_of (ones_but 8 0 0) some_level 0 14 (replicate 48 1)); said = 40 ∷ 3 ∷ [] }
    ∷ record { given = as_bytes (value_of (ones_but 8 3 0) some_level 0 14 (replicate 48 1)); said = 40 ∷ 15 ∷ [] }
    ∷ record { given = as_value (value_of (ones_but 8 7 0x10_0000) some_level 0 14 (replicate 48 1)); said = 40 ∷ 31 ∷ [] }
    ∷ record { given = as_value (value_of (1 ∷ 1 ∷ 0 ∷ 0 ∷ 1 ∷ 1 ∷ 1 ∷ 0 ∷ []) 0 5 9 (replicate 48 0)); said = 40 ∷ 11 ∷ [] }
    -- Req 04 level, mode and K, each at fault with what is tested after it
    ∷ record { given = as_value (value_of (replicate 8 1) 0 5 9 (replicate 48 0)); said = 41 ∷ 38 ∷ [] }
    ∷ record { given = as_bytes (value_of (replicate 8 1) 0x7F80_0000 1 8 (replicate 48 1)); said = 41 ∷ 38 ∷ [] }
    ∷ record { given = as_value (value_of (replicate 8 1) some_level 5 9 (replicate 48 0)); said = 42 ∷ 45 ∷ [] }
    ∷ record { given = as_bytes (value_of (replicate 8 1) some_level 5 12 (replicate 48 1)); said = 42 ∷ 45 ∷ [] }
    ∷ record { given = as_value (value_of (replicate 8 1) some_level 1 9 (replicate 48 0)); said = 43 ∷ 49 ∷ [] }
    ∷ record { given = as_bytes (value_of (replicate 8 1) some_level 0 13 (replicate 48 1)); said = 43 ∷ 49 ∷ [] }
    -- Req 04 a faulty seed, the first, one in the middle and the last of both modes; an unused one, the first and the last
    ∷ record { given = as_value (value_of (replicate 8 1) some_level 1 14 (replicate 48 0)); said = 44 ∷ 53 ∷ [] }
    ∷ record { given = as_bytes (value_of (replicate 8 1) some_level 0 14 (ones_but 48 20 0x10_0000)); said = 44 ∷ 133 ∷ [] }
    ∷ record { given = as_bytes (value_of (replicate 8 1) some_level 1 14 (ones_but 48 31 0)); said = 44 ∷ 177 ∷ [] }
    ∷ record { given = as_value (value_of (replicate 8 1) some_level 0 14 (ones_but 48 47 0)); said = 44 ∷ 241 ∷ [] }
    ∷ record { given = as_value (value_of (replicate 8 1) some_level 1 14 (replicate 48 1)); said = 44 ∷ 181 ∷ [] }
    ∷ record { given = as_value (value_of (replicate 8 1) some_level 1 14 (replicate 32 1 ++ (replicate 15 0 ++ (1 ∷ [])))); said = 44 ∷ 241 ∷ [] }
    -- and one with nothing at fault
    ∷ record { given = as_value (value_of (first_of 8 (λ i. 0xF_FFFF - i)) some_level 0 8 (replicate 48 0xF_FFFF)); said = 0 ∷ 0 ∷ [] }
    ∷ record { given = as_bytes (value_of eight some_level 1 12 (replicate 32 1 ++ replicate 16 0)); said = 0 ∷ 0 ∷ [] }
    -- Req 05 +0.0 and -0.0, the same NaN, another NaN in the second part, the same numbers, a NaN with the other sign
    ∷ record {
      given = differing
          (grids (0 ∷ 0x7FC0_0000 ∷ 0 ∷ 1 ∷ 0x7F80_0001 ∷ [])
          (0 ∷ 0 ∷ 0x7FC0_0000 ∷ 2 ∷ 0 ∷ [])
          (0x8000_0000 ∷ 0x7FC0_0000 ∷ 0 ∷ 1 ∷ 0xFF80_0001 ∷ [])
          (0 ∷ 0 ∷ 0x7FC0_0001 ∷ 2 ∷ 0 ∷ []));
      said = 0 ∷ 2 ∷ 4 ∷ [];
    }
    -- Req 05 symbol, cell, the two parts of the one and of the other; the symbols counted from one that is given
    ∷ record { given = difference 0 (grids (1 ∷ []) (2 ∷ []) (3 ∷ []) (4 ∷ [])) 0; said = 0 ∷ 0 ∷ 1 ∷ 2 ∷ 3 ∷ 4 ∷ [] }
    ∷ record { given = difference 0 (grids [] [] [] []) 4095; said = 0 ∷ 4095 ∷ 0 ∷ 0 ∷ 0 ∷ 0 ∷ [] }
    ∷ record { given = difference 5 (grids [] [] [] []) 8193; said = 7 ∷ 1 ∷ 0 ∷ 0 ∷ 0 ∷ 0 ∷ [] }
    ∷ record { given = difference 0xFFFF_FFFE (grids [] [] [] []) 4096; said = 0xFFFF_FFFF ∷ 0 ∷ 0 ∷ 0 ∷ 0 ∷ 0 ∷ [] }
    ∷ record { given = difference 0xFFFF_FFFF (grids [] [] [] []) 4096; said = 0 ∷ 0 ∷ 0 ∷ 0 ∷ 0 ∷ 0 ∷ [] }
    -- Req 05 two differences in a list with one number to spare, in one that is one too short, and where none fits
    ∷ record { given = filled two_of (replicate 13 9); said = 0 ∷ 0 ∷ 1 ∷ 2 ∷ 3 ∷ 4 ∷ 0 ∷ 1 ∷ 5 ∷ 6 ∷ 7 ∷ 8 ∷ 9 ∷ [] }
    ∷ record { given = filled two_of (replicate 12 9); said = 0 ∷ 0 ∷ 1 ∷ 2 ∷ 3 ∷ 4 ∷ 0 ∷ 1 ∷ 5 ∷ 6 ∷ 7 ∷ 8 ∷ [] }
    ∷ record { given = filled two_of (replicate 11 9); said = 0 ∷ 0 ∷ 1 ∷ 2 ∷ 3 ∷ 4 ∷ 9 ∷ 9 ∷ 9 ∷ 9 ∷ 9 ∷ [] }
    ∷ record { given = filled two_of (replicate 5 9); said = 9 ∷ 9 ∷ 9 ∷ 9 ∷ 9 ∷ [] }
    -- Req 05 empty grids, one symbol, seven; what is no whole symbols, 7; a list of another length, 18, also where none is whole symbols
    ∷ record {
      given = comparing_number 0 0 0 0 ∷ comparing_number 4096 4096 4096 4096 ∷ comparing_number 28672 28672 28672 28672 ∷ [];
      said = 0 ∷ 0 ∷ 0 ∷ [];
    }
    ∷ record {
      given = comparing_number 1 1 1 1 ∷ comparing_number 2048 2048 2048 2048 ∷ comparing_number 4095 4095 4095 4095 ∷ comparing_number 4097 4097 4097 4097 ∷ [];
      said = 7 ∷ 7 ∷ 7 ∷ 7 ∷ [];
    }
    ∷ record {
      given = comparing_number 1 0 0 0 ∷ comparing_number 0 1 0 0 ∷ comparing_number 0 0 4096 0 ∷ comparing_number 3 3 3 2 ∷ [];
      said = 18 ∷ 18 ∷ 18 ∷ 18 ∷ [];
    }
    -- Req 06 the figures of modes 0 to 4: bits a slot and a packet, slots and seeds, symbols; a number that is no mode counts as 1
    ∷ record { given = first_of 5 slot_bits; said = 1000 ∷ 1000 ∷ 2000 ∷ 2000 ∷ 2000 ∷ [] }
    ∷ record { given = first_of 5 packet_bits; said = 3000 ∷ 2000 ∷ 3000 ∷ 2000 ∷ 1500 ∷ [] }
    ∷ record { given = first_of 5 slots; said = 48 ∷ 32 ∷ 24 ∷ 16 ∷ 12 ∷ [] }
    ∷ record { given = first_of 5 symbols; said = 7 ∷ 5 ∷ 4 ∷ 3 ∷ 2 ∷ [] }
    ∷ record { given = first_of 5 part_bits; said = 1 ∷ 1 ∷ 2 ∷ 2 ∷ 2 ∷ [] }
    ∷ record { given = passing 256 0 is_mode; said = 0 ∷ 1 ∷ 2 ∷ 3 ∷ 4 ∷ [] }
    ∷ record { given = part_bits 5 ∷ slot_bits 5 ∷ packet_bits 5 ∷ slots 5 ∷ slots 255 ∷ []; said = 1 ∷ 1000 ∷ 2000 ∷ 32 ∷ 32 ∷ [] }
    -- Req 06 source 000, table 3.2.6.20.7.2-1, four rows at a time, in its order
    ∷ record { given = mapped 0b0000 ++ mapped 0b0001 ++ mapped 0b0011 ++ mapped 0b0010; said = a3 ∷ a3 ∷ a3 ∷ a1 ∷ a3 ∷ n1 ∷ a3 ∷ n3 ∷ [] }
    ∷ record { given = mapped 0b0100 ++ mapped 0b0101 ++ mapped 0b0111 ++ mapped 0b0110; said = a1 ∷ a3 ∷ a1 ∷ a1 ∷ a1 ∷ n1 ∷ a1 ∷ n3 ∷ [] }
    ∷ record { given = mapped 0b1100 ++ mapped 0b1101 ++ mapped 0b1111 ++ mapped 0b1110; said = n1 ∷ a3 ∷ n1 ∷ a1 ∷ n1 ∷ n1 ∷ n1 ∷ n3 ∷ [] }
    ∷ record { given = mapped 0b1000 ++ mapped 0b1001 ++ mapped 0b1011 ++ mapped 0b1010; said = n3 ∷ a3 ∷ n3 ∷ a1 ∷ n3 ∷ n1 ∷ n3 ∷ n3 ∷ [] }
    -- Req 06 slot bits 4i to 4i + 3 are s0 to s3 of point i, and of QPSK 2i and 2i + 1 are s0 and s1
    ∷ record { given = carrying 2 4 ++ carrying 2 5 ++ carrying 2 6 ++ carrying 2 7; said = a1 ∷ a3 ∷ n3 ∷ a3 ∷ a3 ∷ a1 ∷ a3 ∷ n3 ∷ [] }
    ∷ record { given = carrying 1 2 ++ carrying 1 3; said = n1 ∷ a1 ∷ a1 ∷ n1 ∷ [] }
    -- Req 06 the outer level is rounded once, to even at a tie; that of the largest level with a finite triple, and of the next one
    ∷ record {
      given = to_bits binary32 (triple (of_bits binary32 0x3F80_0001))
          ∷ to_bits binary32 (triple (of_bits binary32 most_tripled))
          ∷ to_bits binary32 (triple (of_bits binary32 (most_tripled + 1)))
          ∷ [];
      said = 0x4040_0002 ∷ 0x7F7F_FFFF ∷ 0x7F80_0000 ∷ [];
    }
    -- Req 06 a part on a line, one f32 step below it and one above, at 3.0, -3.0 and zero; -0.0, NaN, the infinities
    ∷ record { given = decided 0x4040_0000 ∷ decided 0x403F_FFFF ∷ decided 0x4040_0001 ∷ []; said = 4 ∷ 2 ∷ 0 ∷ [] }
    ∷ record { given = decided 0xC040_0000 ∷ decided 0xC040_0001 ∷ decided 0xC03F_FFFF ∷ []; said = 4 ∷ 1 ∷ 3 ∷ [] }
    ∷ record { given = decided 0 ∷ decided 0x8000_0001 ∷ decided 0x0000_0001 ∷ decided 0x8000_0000 ∷ []; said = 4 ∷ 3 ∷ 2 ∷ 4 ∷ [] }
    ∷ record { given = decided 0x7FC0_0000 ∷ decided 0x7F80_0000 ∷ decided 0xFF80_0000 ∷ []; said = 4 ∷ 0 ∷ 1 ∷ [] }
    -- Req 06 bits s0 and s1 of such a decision: outer above, outer below, inner above, inner below, doubtful
    ∷ record { given = bit_in 2 0 0 ∷ bit_in 2 0 1 ∷ bit_in 2 1 0 ∷ bit_in 2 1 1 ∷ []; said = 0 ∷ 0 ∷ 0 ∷ 1 ∷ [] }
    ∷ record { given = bit_in 2 2 0 ∷ bit_in 2 2 1 ∷ bit_in 2 3 0 ∷ bit_in 2 3 1 ∷ bit_in 2 4 0 ∷ bit_in 2 4 1 ∷ []; said = 1 ∷ 0 ∷ 1 ∷ 1 ∷ 2 ∷ 2 ∷ [] }
    -- Req 06 the largest level with a finite triple in a mode of 16QAM; the next one is 41 there, before K's 43 and after the mode's 42, and none in QPSK
    ∷ record { given = as_bytes (value_of eight most_tripled 4 14 (replicate 12 1 ++ replicate 36 0)); said = 0 ∷ 0 ∷ [] }
    ∷ record { given = as_bytes (value_of (replicate 8 1) (most_tripled + 1) 2 9 (replicate 24 1 ++ replicate 24 0)); said = 41 ∷ 38 ∷ [] }
    ∷ record { given = as_value (value_of (replicate 8 1) (most_tripled + 1) 3 14 (replicate 48 0)); said = 41 ∷ 38 ∷ [] }
    ∷ record { given = as_value (value_of (replicate 8 1) (most_tripled + 1) 5 14 (replicate 48 0)); said = 42 ∷ 45 ∷ [] }
    ∷ record { given = as_bytes (value_of eight 0x7F7F_FFFF 1 8 (replicate 32 1 ++ replicate 16 0)); said = 0 ∷ 0 ∷ [] }
    -- Req 06 the last seed in use and the first that is not, of modes 2 to 4
    ∷ record { given = as_bytes (value_of (replicate 8 1) some_level 2 14 (ones_but 48 23 0)); said = 44 ∷ 145 ∷ [] }
    ∷ record { given = as_value (value_of (replicate 8 1) some_level 3 14 (replicate 48 1)); said = 44 ∷ 117 ∷ [] }
    ∷ record { given = as_bytes (value_of (replicate 8 1) some_level 4 14 (ones_but 48 11 0)); said = 44 ∷ 97 ∷ [] }
    ∷ record { given = as_value (value_of (replicate 8 1) some_level 4 14 (replicate 48 1)); said = 44 ∷ 101 ∷ [] }
    -- Req 07 parts at the ends of the ranges and one f32 step to either side, at 0.5, -0.5, 2.5, 3.5, -2.5 and -3.5
    ∷ record { given = weighed 0x3F00_0000 ∷ weighed 0x3EFF_FFFF ∷ weighed 0x3F00_0001 ∷ []; said = 2 ∷ 2 ∷ 0 ∷ [] }
    ∷ record { given = weighed 0xBF00_0000 ∷ weighed 0xBEFF_FFFF ∷ weighed 0xBF00_0001 ∷ []; said = 2 ∷ 2 ∷ 1 ∷ [] }
    ∷ record { given = weighed 0 ∷ weighed 0x7FC0_0000 ∷ weighed 0x7F80_0000 ∷ weighed 0xFF80_0000 ∷ []; said = 2 ∷ 2 ∷ 0 ∷ 1 ∷ [] }
    ∷ record { given = weighed_two 0x3F00_0000 ∷ weighed_two 0x3F00_0001 ∷ weighed_two 0xBF00_0000 ∷ weighed_two 0xBF00_0001 ∷ []; said = 4 ∷ 2 ∷ 4 ∷ 3 ∷ [] }
    ∷ record { given = weighed_two 0x401F_FFFF ∷ weighed_two 0x4020_0000 ∷ weighed_two 0x4060_0000 ∷ weighed_two 0x4060_0001 ∷ []; said = 2 ∷ 4 ∷ 4 ∷ 0 ∷ [] }
    ∷ record { given = weighed_two 0xC01F_FFFF ∷ weighed_two 0xC020_0000 ∷ weighed_two 0xC060_0000 ∷ weighed_two 0xC060_0001 ∷ []; said = 3 ∷ 4 ∷ 4 ∷ 1 ∷ [] }
    ∷ record { given = weighed_two 0x4040_0000 ∷ weighed_two 0x7FC0_0000 ∷ weighed_two 0x7F80_0000 ∷ weighed_two 0xFF80_0000 ∷ []; said = 4 ∷ 4 ∷ 0 ∷ 1 ∷ [] }
    -- Req 07 the ends in one rounding: of the first floor, 5/8 of the last place below 2.0, two would leave nothing (1.0 + (1.0 - floor)), and of the second
    -- level 3D - (D + floor) is a step off; the smallest subnormal floor at the least level and at 1.0; half the least level, and half the largest with a
    -- finite triple
    ∷ record { given = ends_of a1 0x33A0_0000 ++ ends_of 0x3F80_0001 0x3E80_0000; said = 0x3FFF_FFFF ∷ 0x4000_0000 ∷ 0x3FE0_0002 ∷ 0x4010_0001 ∷ [] }
    ∷ record { given = ends_of 0x0080_0000 1 ++ ends_of a1 1; said = 0x00FF_FFFF ∷ 0x0100_0000 ∷ 0x4000_0000 ∷ 0x4000_0000 ∷ [] }
    ∷ record {
      given = ends_of 0x0080_0000 0x0040_0000 ++ ends_of most_tripled 0x7E2A_AAAA;
      said = 0x00C0_0000 ∷ 0x0120_0000 ∷ 0x7EFF_FFFF ∷ 0x7F55_5554 ∷ [];
    }
    -- Req 07 floors of +0.0, the smallest subnormal, just below and at D/2; just above D/2, -0.0, below zero, infinity, NaN; the largest of all, and one whose double is infinite
    ∷ record { given = as_bytes (floored 0) ++ as_bytes (floored 1) ++ as_bytes (floored 0x3F3F_FFFF) ++ as_bytes (floored 0x3F40_0000); said = replicate 8 0 }
    ∷ record { given = as_bytes (floored 0x3F40_0001) ++ as_bytes (floored 0x8000_0000) ++ as_value (floored 0x8000_0001); said = 45 ∷ 248 ∷ 45 ∷ 248 ∷ 45 ∷ 248 ∷ [] }
    ∷ record { given = as_bytes (floored 0x7F80_0000) ++ as_value (floored 0x7FC0_0000); said = 45 ∷ 248 ∷ 45 ∷ 248 ∷ [] }
    ∷ record {
      given = as_bytes (with_floor 0x7EFF_FFFF eight 0x7F7F_FFFF 1 14 (replicate 32 1 ++ replicate 16 0))
          ++ as_bytes (with_floor 0x7F7F_FFFF (replicate 8 1) 0x7F7F_FFFF 1 14 (replicate 32 1 ++ replicate 16 0))
          ++ as_value (with_floor 0x3F40_0001 (replicate 8 1) some_level 4 14 (replicate 12 1 ++ replicate 36 0));
      said = 0 ∷ 0 ∷ 45 ∷ 184 ∷ 45 ∷ 104 ∷ [];
    }
    -- Req 07 the floor after the seeds; bytes without it, 5; surplus bytes after it
    ∷ record { given = as_value (with_floor 0x8000_0000 (replicate 8 1) some_level 0 14 (ones_but 48 47 0)); said = 44 ∷ 241 ∷ [] }
    ∷ record {
      given = (reading (take 245 (written (floored 0)))).number
          ∷ (reading (written (floored 0) ++ (7 ∷ 0 ∷ []))).number
          ∷ (reading (written (floored 0) ++ (7 ∷ 0 ∷ 0 ∷ []))).number
          ∷ length (written (floored 0))
          ∷ [];
      said = 5 ∷ 1 ∷ 2 ∷ 252 ∷ [];
    }
    -- Req 08 the later slot is the place: the first pair of a symbol, its first and last slot, its last pair, a pair of a middle symbol, the last pair of a block
    ∷ record { given = as_value (twinned 4 12 0 1) ++ as_bytes (twinned 4 12 0 6) ++ as_value (twinned 4 12 5 6); said = 46 ∷ 1 ∷ 46 ∷ 6 ∷ 46 ∷ 6 ∷ [] }
    ∷ record { given = as_bytes (twinned 0 48 22 26) ++ as_value (twinned 0 48 46 47); said = 46 ∷ 26 ∷ 46 ∷ 47 ∷ [] }
    -- Req 08 the short last symbols of modes 1 to 4
    ∷ record { given = as_value (twinned 1 32 28 31) ++ as_bytes (twinned 2 24 21 23); said = 46 ∷ 31 ∷ 46 ∷ 23 ∷ [] }
    ∷ record { given = as_bytes (twinned 3 16 14 15) ++ as_bytes (twinned 4 12 7 11); said = 46 ∷ 15 ∷ 46 ∷ 11 ∷ [] }
    -- Req 08 allowed: no two seeds the same; the same seed in two symbols, in slots next to each other and of one slot number
    ∷ record { given = as_bytes (twinned 0 48 0 0) ++ as_value (twinned 4 12 6 7) ++ as_bytes (twinned 4 12 0 7); said = replicate 6 0 }
    -- Req 08 all seeds the same: allowed where the masks of slot numbers 1 to 7 differ, whatever mask 0 is; masks 3 and 7 the same; all
    ∷ record { given = as_bytes (masked eight) ++ as_value (masked (2 ∷ 1 ∷ 2 ∷ 3 ∷ 4 ∷ 5 ∷ 6 ∷ 7 ∷ [])); said = replicate 4 0 }
    ∷ record { given = as_bytes (masked (1 ∷ 2 ∷ 3 ∷ 4 ∷ 5 ∷ 6 ∷ 7 ∷ 4 ∷ [])) ++ as_value (masked (replicate 8 1)); said = 46 ∷ 6 ∷ 46 ∷ 1 ∷ [] }
    -- Req 08 of two slots that repeat one the first, of pairs in two symbols the first
    ∷ record {
      given = as_value (value_of (replicate 8 1) some_level 4 14 ((1 ∷ 2 ∷ 3 ∷ 2 ∷ 5 ∷ 2 ∷ 3 ∷ 8 ∷ 8 ∷ 10 ∷ 11 ∷ 12 ∷ []) ++ replicate 36 0));
      said = 46 ∷ 3 ∷ [];
    }
    -- Req 08 any other fault comes first: the floor, an unused seed, surplus bytes
    ∷ record {
      given = as_bytes (with_floor 0x8000_0000 (replicate 8 1) some_level 4 14 (seeds_with 12 0 1))
          ++ as_value (value_of (replicate 8 1) some_level 4 14 (replicate 48 1))
          ++ ((reading (written (twinned 4 12 0 1) ++ (7 ∷ 0 ∷ []))).number ∷ (reading (written (twinned 4 12 0 1) ++ (7 ∷ 0 ∷ 0 ∷ []))).number ∷ []);
      said = 45 ∷ 104 ∷ 44 ∷ 101 ∷ 1 ∷ 2 ∷ [];
    }
    ∷ []

-- and what Req 09 names, the totals of receipts
abbrev pub totals_examples : List Example
totals_examples =
    -- Req 09 the totals of five receipts, counted over the sequence and added one by one; each of them is taken
    record { given = totals_of (all_came ∷ restored_two ∷ three_marked ∷ none_agrees ∷ no_block ∷ []); said = of_five }
    ∷ record { given = plus (plus (plus (plus (plus no_totals no_block) three_marked) all_came) none_agrees) restored_two; said = of_five }
    ∷ record {
      given = adding_number no_totals all_came ∷ adding_number no_totals restored_two ∷ adding_number no_totals three_marked ∷ adding_number no_totals none_agrees ∷ [];
      said = replicate 4 0;
    }
    -- Req 09 23: a bit of the mask too few and one too many, for the first, a middle and the last packet, in blocks that ended in 0, 9 and 10
    ∷ record {
      given = adding_number no_totals (receipt 0 0 (one_lost 0 11)) ∷ adding_number no_totals (receipt 9 0 (one_lost 7 12)) ∷ adding_number no_totals (receipt 10 0 (one_lost 15 13)) ∷ [];
      said = 23 ∷ 23 ∷ 23 ∷ [];
    }
    ∷ record {
      given = adding_number no_totals (receipt 9 1 (replicate 16 0)) ∷ adding_number no_totals (receipt 10 0x81 (one_lost 7 14)) ∷ adding_number no_totals (receipt 0 0x8000 (replicate 16 0)) ∷ [];
      said = 23 ∷ 23 ∷ 23 ∷ [];
    }
    -- Req 09 23: the reasons next to those that there are, with the mask right; the least and the largest of them are taken
    ∷ record {
      given = adding_number no_totals (receipt 0 1 (one_lost 0 10)) ∷ adding_number no_totals (receipt 0 1 (one_lost 0 16)) ∷ adding_number no_totals (receipt 9 1 (one_lost 0 1)) ∷ adding_number no_totals (receipt 10 0x8000 (one_lost 15 255)) ∷ [];
      said = replicate 4 23;
    }
    ∷ record { given = adding_number no_totals (receipt 0 0x8000 (one_lost 15 11)) ∷ adding_number no_totals (receipt 0 0x8000 (one_lost 15 15)) ∷ []; said = 0 ∷ 0 ∷ [] }
    -- Req 09 totals that aren't 128; no block, whatever else there is
    ∷ record { given = adding_number (replicate 127 0) all_came ∷ adding_number (replicate 129 0) all_came ∷ adding_number [] all_came ∷ []; said = replicate 3 23 }
    ∷ record { given = adding_number [] no_block ∷ adding_number (replicate 128 (2 ^ 64 - 1)) no_block ∷ adding_number no_totals (receipt 11 1 (replicate 16 0)) ∷ []; said = replicate 3 0 }
    -- Req 09 19: a total that would rise is full, the first, one of a reason, the last; not where it would not rise, or can once more; 23 comes before it
    ∷ record {
      given = adding_number (zeros_but 0 (2 ^ 64 - 1)) all_came ∷ adding_number (zeros_but 4 (2 ^ 64 - 1)) restored_two ∷ adding_number (zeros_but 127 (2 ^ 64 - 1)) (receipt 9 0x8000 (one_lost 15 15)) ∷ [];
      said = replicate 3 19;
    }
    ∷ record {
      given = adding_number (zeros_but 1 (2 ^ 64 - 1)) all_came ∷ adding_number (zeros_but 0 (2 ^ 64 - 2)) all_came ∷ adding_number (zeros_but 127 (2 ^ 64 - 2)) (receipt 9 0x8000 (one_lost 15 15)) ∷ [];
      said = replicate 3 0;
    }
    ∷ record { given = adding_number (replicate 128 (2 ^ 64 - 1)) (receipt 9 1 (replicate 16 0)) ∷ row (plus (zeros_but 120 (2 ^ 64 - 2)) all_came) 120 ∷ []; said = 23 ∷ (2 ^ 64 - 1) ∷ [] }
    ∷ []

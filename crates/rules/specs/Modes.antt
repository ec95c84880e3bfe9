-- Document 01, "What the card carries", and document 02, Req 06: the transmission modes of source 003, and every figure that follows from a mode.
use Rattle.std.specs.Prelude.{Bool, List, [], ◌∷◌, ℕ, ◌+◌, ◌*◌, ◌/◌, ltb, length, get_or}
use Rattle.rules.specs.Turbo.{entered, coded_length}
use Rattle.rules.specs.declared.Rate.{Rate}
use Rattle.rules.specs.declared.Rate.TheVariants.{Half, Third, TwoThirds}

-- QPSK has 2 bits a point, 16QAM 4
pub record Mode : Type 0 where
  pub point_bits : ℕ
  pub rate : Rate

-- 0 is QPSK rate 1/3, 1 is QPSK rate 1/2; 2, 3 and 4 are 16QAM with rates 1/3, 1/2 and 2/3
abbrev pub modes : List Mode
modes =
    record { point_bits = 2; rate = Third }
    ∷ record { point_bits = 2; rate = Half }
    ∷ record { point_bits = 4; rate = Third }
    ∷ record { point_bits = 4; rate = Half }
    ∷ record { point_bits = 4; rate = TwoThirds }
    ∷ []

abbrev pub is_mode : ℕ → Bool
is_mode m = ltb m (length modes)

-- the mode with a number; a number that is none counts as 1
unfoldable pub mode : ℕ → Mode
mode m = get_or modes m (record { point_bits = 2; rate = Half })

abbrev pub rate : ℕ → Rate
rate m = (mode m).rate

-- how many bits each of a point's two parts has: 1 or 2
unfoldable pub part_bits : ℕ → ℕ
part_bits m = (mode m).point_bits / 2

-- a slot has 500 points: 1000 or 2000 bits
unfoldable pub slot_bits : ℕ → ℕ
slot_bits m = 500 * (mode m).point_bits

-- how many bits a packet has in the slots: 3000, 2000 or 1500
unfoldable pub packet_bits : ℕ → ℕ
packet_bits m = coded_length (rate m) entered

-- how many slots a block has, and how many seeds: 48, 32, 24, 16, 12
unfoldable pub slots : ℕ → ℕ
slots m = 16 * packet_bits m / slot_bits m

-- how many symbols a grid has: 7, 5, 4, 3, 2
abbrev pub symbols : ℕ → ℕ
symbols m = (slots m + 6) / 7

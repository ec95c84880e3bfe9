-- Document 01, "Slots, scrambling, points", and document 02, Req 06 and Req 07: points and decisions. A part is an f32; silent is +0.0 in both parts.
-- A part has w bits: one of QPSK, two of 16QAM.
use Rattle.std.specs.Prelude.{◌&&◌, ◌||◌, ℕ, ◌+◌, ◌*◌, ◌^◌, eqb, Float}
use Rattle.std.specs.Float.{binary32}
use Rattle.std.specs.Float.Ieee.{of_bits, neg, add, sub, mul, lt}
use Rattle.rules.specs.Bits.{pick, bit_of}
use Rattle.rules.specs.declared.Point.{Point}
use Rattle.rules.specs.declared.Cell.{Cell}
use Rattle.rules.specs.declared.Cell.TheVariants.{Silent, Carries}

abbrev pub zero_part : Float
zero_part = of_bits binary32 0

-- 16QAM (Req 06) has an inner level D and an outer level 3 × D, in one rounded multiplication, and a line between them at 2 × D, which is exact
unfoldable pub triple : Float → Float
triple level = mul binary32 (of_bits binary32 0x4040_0000) level

unfoldable pub twice : Float → Float
twice level = mul binary32 (of_bits binary32 0x4000_0000) level

-- a sign bit 1 makes the part negative; a size bit 1 is the inner level, else the outer
abbrev pub signed : ℕ → Float → Float
signed b a = pick (eqb b 1) (neg a) a

abbrev pub sized : ℕ → Float → Float
sized b level = pick (eqb b 1) level (triple level)

-- the part that w bits make: of QPSK the one bit is the sign, of 16QAM the first is the size and the second the sign (000, table 3.2.6.20.7.2-1)
abbrev pub part : ℕ → Float → (ℕ → ℕ) → Float
part w level s = pick (eqb w 1) (signed (s 0) level) (signed (s 1) (sized (s 0) level))

-- the point of the bits s0, s1, ..: the first w make the first part, the next w the second
abbrev pub point_of : ℕ → Float → (ℕ → ℕ) → Point
point_of w level s = record { first = part w level s; second = part w level (λ j. s (w + j)) }

abbrev pub first_part : Cell → Float
first_part Silent = zero_part
first_part (Carries p) = p.first

abbrev pub second_part : Cell → Float
second_part Silent = zero_part
second_part (Carries p) = p.second

-- ---- deciding. A doubtful bit is 2 here

abbrev pub doubtful : ℕ
doubtful = 2

-- The sign: a part above the floor is bit 0 and one below its negative is bit 1, infinities too; from -floor to floor, ends included, and at NaN it is
-- doubtful (Req 07)
unfoldable pub sign_of : Float → Float → ℕ
sign_of floor a = pick (lt floor a) 0 (pick (lt a (neg floor)) 1 doubtful)

-- The doubtful range around 2D runs from 2D - floor to 2D + floor, each in one rounding, and around -2D likewise: from the one's negative to the other's
unfoldable pub near_end : Float → Float → Float
near_end level floor = sub binary32 (twice level) floor

unfoldable pub far_end : Float → Float → Float
far_end level floor = add binary32 (twice level) floor

-- The size: beyond both ranges is bit 0 and between them bit 1, infinities too; in a range, ends included, and at NaN it is doubtful
unfoldable pub size_of : Float → Float → Float → ℕ
size_of level floor a =
    pick (lt (far_end level floor) a || lt a (neg (far_end level floor))) 0
    (pick (lt (neg (near_end level floor)) a && lt a (near_end level floor)) 1 doubtful)

-- size and sign as a number of two bits; a part that is doubtful in one of them is so in both, which is 4
abbrev pub size_and_sign : ℕ → ℕ → ℕ
size_and_sign size sign = pick (eqb size doubtful || eqb sign doubtful) 4 (2 * size + sign)

-- what a part decides to: the number that its w bits make, highest first; 2 ^ w is doubtful
unfoldable pub decide : ℕ → Float → Float → Float → ℕ
decide w level floor a = pick (eqb w 1) (sign_of floor a) (size_and_sign (size_of level floor a) (sign_of floor a))

-- bit j of that
abbrev pub bit_in : ℕ → ℕ → ℕ → ℕ
bit_in w d j = pick (eqb d (2 ^ w)) doubtful (bit_of w d j)

-- ---- deciding without a floor, as it was before Req 07: doubtful are zero of either sign, the lines at 2D and -2D, and NaN

unfoldable pub sign_without : Float → ℕ
sign_without a = pick (lt zero_part a) 0 (pick (lt a zero_part) 1 doubtful)

unfoldable pub size_without : Float → Float → ℕ
size_without level a =
    pick (lt (twice level) a || lt a (neg (twice level))) 0
    (pick (lt (neg (twice level)) a && lt a (twice level)) 1 doubtful)

unfoldable pub decide_without : ℕ → Float → Float → ℕ
decide_without w level a = pick (eqb w 1) (sign_without a) (size_and_sign (size_without level a) (sign_without a))

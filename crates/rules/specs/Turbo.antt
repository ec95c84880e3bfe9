-- Document 01, "Turbo code": both encoders, and which of their outputs are sent at each rate. x is a row of `len` bits, x' the same interleaved.
use Rattle.std.specs.Prelude.{List, [], ◌∷◌, ℕ, zero, suc, ◌+◌, ◌-◌, ◌*◌, ◌/◌, ◌%◌, eqb, ltb, length, get_or}
use Rattle.rules.specs.Bits.{pick}
use Rattle.rules.specs.declared.Rate.{Rate}
use Rattle.rules.specs.declared.Rate.TheVariants.{Half, Third, TwoThirds}

-- the 6 tail zeros are dropped, 994 bits enter
abbrev pub entered : ℕ
entered = 994

-- ---- one encoder. The register holds three bits: s / 4 is D, s / 2 % 2 is D^2 and s % 2 is D^3

-- feedback 1 + D^2 + D^3: what is added to the bit that comes in
abbrev pub feedback : ℕ → ℕ
feedback s = (s / 2 % 2 + s % 2) % 2

-- parity Y0 by 1 + D + D^3, where a enters the register
abbrev pub parity_of : ℕ → ℕ → ℕ
parity_of a s = (a + s / 4 + s % 2) % 2

-- a enters the register
abbrev pub shift : ℕ → ℕ → ℕ
shift a s = a * 4 + s / 2

-- what enters the register at bit b
abbrev pub entering : ℕ → ℕ → ℕ
entering b s = (b + feedback s) % 2

unfoldable pub state : (ℕ → ℕ) → ℕ → ℕ
state x zero = 0
state x (suc i) = let s = state x i in shift (entering (x i) s) s

abbrev pub y0 : (ℕ → ℕ) → ℕ → ℕ
y0 x i = parity_of (entering (x i) (state x i)) (state x i)

-- Three periods end the encoder: its register input is zero and X is the feedback bit
unfoldable pub ending : (ℕ → ℕ) → ℕ → ℕ → ℕ
ending x len zero = state x len
ending x len (suc i) = shift 0 (ending x len i)

-- ---- what is sent

pub data Output : Type 0 where
  X Y0 X' Y'0 : Output

-- an output, and the period that it is taken from
pub data Sent : Type 0 where
  at : Output → ℕ → Sent

-- Data output: rate 1/2, per two bits, X Y0 then X Y'0; rate 1/3, per bit, X Y0 Y'0; rate 2/3 (Req 06, source 000), per four bits, X Y0, X, X, X Y'0
abbrev pub period : Rate → ℕ
period Half = 2
period Third = 1
period TwoThirds = 4

abbrev pub pattern : Rate → List Sent
pattern Half = at X 0 ∷ at Y0 0 ∷ at X 1 ∷ at Y'0 1 ∷ []
pattern Third = at X 0 ∷ at Y0 0 ∷ at Y'0 0 ∷ []
pattern TwoThirds = at X 0 ∷ at Y0 0 ∷ at X 1 ∷ at X 2 ∷ at X 3 ∷ at Y'0 3 ∷ []

-- Ends: rate 1/2 sends X Y0 three times, then X' Y'0 three times; rate 1/3 sends X X Y0, then X' X' Y'0; rate 2/3 sends X Y0, X, X Y0, then X', X' Y'0, X'
abbrev pub tail : Rate → List Sent
tail Half =
    at X 0 ∷ at Y0 0 ∷ at X 1 ∷ at Y0 1 ∷ at X 2 ∷ at Y0 2
    ∷ at X' 0 ∷ at Y'0 0 ∷ at X' 1 ∷ at Y'0 1 ∷ at X' 2 ∷ at Y'0 2 ∷ []
tail Third =
    at X 0 ∷ at X 0 ∷ at Y0 0 ∷ at X 1 ∷ at X 1 ∷ at Y0 1 ∷ at X 2 ∷ at X 2 ∷ at Y0 2
    ∷ at X' 0 ∷ at X' 0 ∷ at Y'0 0 ∷ at X' 1 ∷ at X' 1 ∷ at Y'0 1 ∷ at X' 2 ∷ at X' 2 ∷ at Y'0 2 ∷ []
tail TwoThirds =
    at X 0 ∷ at Y0 0 ∷ at X 1 ∷ at X 2 ∷ at Y0 2
    ∷ at X' 0 ∷ at X' 1 ∷ at Y'0 1 ∷ at X' 2 ∷ []

-- an output in the pattern that begins at bit i
abbrev pub data_output : (ℕ → ℕ) → (ℕ → ℕ) → ℕ → Sent → ℕ
data_output x x' i (at X k) = x (i + k)
data_output x x' i (at Y0 k) = y0 x (i + k)
data_output x x' i (at X' k) = x' (i + k)
data_output x x' i (at Y'0 k) = y0 x' (i + k)

-- an output in the periods that end the encoders
abbrev pub tail_output : (ℕ → ℕ) → (ℕ → ℕ) → ℕ → Sent → ℕ
tail_output x x' len (at X k) = feedback (ending x len k)
tail_output x x' len (at Y0 k) = parity_of 0 (ending x len k)
tail_output x x' len (at X' k) = feedback (ending x' len k)
tail_output x x' len (at Y'0 k) = parity_of 0 (ending x' len k)

-- how many outputs of a pattern its first n bits have
abbrev pub outputs_of : ℕ → List Sent → ℕ
outputs_of n [] = 0
outputs_of n (at o k ∷ l) = pick (ltb k n) 1 0 + outputs_of n l

-- how many bits the data output has: whole patterns, and the last one is used for the bits that are left only (2 of 994 at rate 2/3); and all that is sent
abbrev pub data_length : Rate → ℕ → ℕ
data_length R len = len / period R * length (pattern R) + outputs_of (len % period R) (pattern R)

abbrev pub coded_length : Rate → ℕ → ℕ
coded_length R len = data_length R len + length (tail R)

-- bit n of what is sent
unfoldable pub coded_bit : Rate → (ℕ → ℕ) → (ℕ → ℕ) → ℕ → ℕ → ℕ
coded_bit R x x' len n =
    pick (ltb n (data_length R len))
    (data_output x x' (n / length (pattern R) * period R) (get_or (pattern R) (n % length (pattern R)) (at X 0)))
    (tail_output x x' len (get_or (tail R) (n - data_length R len) (at X 0)))

-- where bit i of x itself stands in what is sent
abbrev pub data_place : Rate → ℕ → ℕ
data_place Half i = 2 * i
data_place Third i = 3 * i
data_place TwoThirds i = 6 * (i / 4) + pick (eqb (i % 4) 0) 0 (i % 4 + 1)

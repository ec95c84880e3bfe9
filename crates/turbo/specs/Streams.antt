-- All that the two encoders put out for 994 bits, side by side: four streams of 997 (994 bits, then the three periods that end an encoder), X, Y0, X', Y'0.
-- What is sent at any rate is then a choice of places in this row: the room `patterns`.
use Rattle.std.specs.Prelude.{ℕ, ◌-◌, ◌/◌, ◌%◌, eqb, ltb}
use Rattle.rules.specs.Bits.{pick}
use Rattle.rules.specs.Turbo.{Output, X, Y0, X', Y'0, at, entered, data_output, tail_output}

abbrev pub stream_of : ℕ → Output
stream_of o = pick (eqb o 0) X (pick (eqb o 1) Y0 (pick (eqb o 2) X' Y'0))

-- period i of an output: a bit's, or one of the last three
unfoldable pub period_of : (ℕ → ℕ) → (ℕ → ℕ) → Output → ℕ → ℕ
period_of x x' o i = pick (ltb i entered) (data_output x x' i (at o 0)) (tail_output x x' entered (at o (i - entered)))

-- element k of the row
abbrev pub stream : (ℕ → ℕ) → (ℕ → ℕ) → ℕ → ℕ
stream x x' k = period_of x x' (stream_of (k / 997)) (k % 997)

-- The cells of two lists decided one by one.
use Rattle.std.specs.Prelude.{◌≡◌, Bool, true, false, ◌&&◌, List, ℕ, eqb, Float, length, get_or}
use Rattle.std.specs.Float.Ieee.{neg, lt}
use Rattle.rules.specs.Bits.{pick}
use Rattle.rules.specs.Modes.{part_bits}
use Rattle.rules.specs.Points.{zero_part}
use Rattle.rules.specs.Pieces.{cell_byte}
use Rattle.laws.specs.Holds.{Holds}

-- the sign of a part, and for a doubtful one a number
abbrev pub sign_or : ℕ → Float → Float → ℕ
sign_or doubt floor a = pick (lt floor a) 0 (pick (lt a (neg floor)) 1 doubt)

-- the byte of cell c of two lists, where a part has w bits; and in a mode
abbrev pub byte_of : ℕ → Float → Float → List Float → List Float → ℕ → ℕ
byte_of w level floor firsts seconds c = cell_byte w level floor (get_or firsts c zero_part) (get_or seconds c zero_part)

abbrev pub decided_byte : ℕ → Float → Float → List Float → List Float → ℕ → ℕ
decided_byte m = byte_of (part_bits m)

pub record DecideRule (m : ℕ) (level floor : Float) (firsts seconds : List Float) (before after : List ℕ) (r : Bool) : Type 0 where
  pub answer : r ≡ (eqb (length firsts) (length before) && eqb (length seconds) (length before))
  pub done : r ≡ true → Holds 0 (length before) (decided_byte m level floor firsts seconds) after
  pub kept : r ≡ false → after ≡ before

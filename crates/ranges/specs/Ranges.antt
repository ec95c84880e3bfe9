-- One range from a number to another, and how many numbers of a value are in their ranges before the first that isn't.
use Rattle.std.specs.Prelude.{Bool, ◌&&◌, List, [], ◌∷◌, ℕ, suc, leb, ltb}
use Rattle.rules.specs.Bits.{pick}
use Rattle.rules.specs.Profile.{Tested}

-- from low to high - 1
abbrev pub between : ℕ → ℕ → ℕ → Bool
between low high x = leb low x && ltb x high

-- how many numbers stand before the first that is out of its range; all of them where none is
abbrev pub passed : List Tested → ℕ
passed [] = 0
passed (x ∷ xs) = pick x.good (suc (passed xs)) 0

-- The mode that a number counts as.
use Rattle.std.specs.Prelude.{ℕ, ltb}
use Rattle.rules.specs.Bits.{pick}

abbrev pub counted : ℕ → ℕ
counted m = pick (ltb m 5) m 1

-- There is one NaN, and its pattern is the one written.
use Rattle.std.proofs.Common.{◌≡◌, refl, true, Float}
use Rattle.std.specs.Float.{binary32}
use Rattle.std.specs.Float.Ieee.{nan, inf, fin, is_nan, of_bits, to_bits}

pub the_nan : (x : Float) → is_nan x ≡ true → of_bits binary32 0x7FC0_0000 ≡ x
unfolding is_nan of_bits
the_nan nan e = refl
the_nan (inf s) e = cc
the_nan (fin s m k) e = cc

pub nan_pattern : (x : Float) → is_nan x ≡ true → 0x7FC0_0000 ≡ to_bits binary32 x
unfolding is_nan to_bits
nan_pattern nan e = refl
nan_pattern (inf s) e = cc
nan_pattern (fin s m k) e = cc

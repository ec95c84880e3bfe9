-- A pattern above infinity's, its sign taken off, is a NaN's; any other pattern is read as it stands.
use Rattle.std.proofs.Common.{sym, ◌∙◌, lt-ltb}
use Rattle.std.specs.Float.{binary32}
use Rattle.std.specs.Float.Ieee.{of_bits}
use Rattle.std.specs.Float.Ieee.Bits.{nan_bits_is, nan_bits_above}
use Rattle.std.proofs.lemmas.Float.{not_nan_f32_bits}
use Rattle.parts.proofs.Nan.{the_nan}
use Rattle.parts.proofs.part_of_bits.Goals as goal

pub returns-then-bits-gt2139095040 : goal.returns-then-bits-gt2139095040
returns-then-bits-gt2139095040 c =
    let n = c.args.bits in
    the_nan (of_bits binary32 n) (sym (nan_bits_is binary32 n) ∙ nan_bits_above binary32 n ∙ lt-ltb _ _ c.if-bits-gt2139095040.true)

pub float_from_bits-result : goal.float_from_bits-result
float_from_bits-result c = not_nan_f32_bits c.args.bits c.if-bits-gt2139095040.false

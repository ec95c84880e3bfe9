-- A NaN's pattern is the one written.
use Rattle.std.proofs.Common.{sym, ◌∙◌}
use Rattle.parts.proofs.Nan.{nan_pattern}
use Rattle.parts.proofs.bits_of_part.Goals as goal

pub returns-then-is_nan : goal.returns-then-is_nan
returns-then-is_nan c = nan_pattern c.args.part (sym c.is_nan.ensures.value ∙ c.if-is_nan.true)

-- The mode is the one byte.
use Rattle.std.proofs.Common.{refl}
use Rattle.profile.specs.Fields.{field}
use Rattle.profile.proofs.fields.Field.with_value.Goals as goal

pub returns-in-Mode : goal.returns-in-Mode
unfolding field
returns-in-Mode c = rw (c.in-Mode.is, c.byte_of.ensures) refl

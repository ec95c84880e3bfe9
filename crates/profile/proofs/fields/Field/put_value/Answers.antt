-- The mode is the one byte.
use Rattle.std.proofs.Common.{◌∙◌, refl}
use Rattle.profile.specs.Fields.{field}
use Rattle.profile.proofs.fields.Field.put_value.Goals as goal

pub copy_from_slice-requires : goal.copy_from_slice-requires
unfolding field
copy_from_slice-requires c = rw c.in-Mode.is at c.requires

pub returns-in-Mode : goal.returns-in-Mode
unfolding field
returns-in-Mode c = c.copy_from_slice.ensures.after ∙ rw c.in-Mode.is refl

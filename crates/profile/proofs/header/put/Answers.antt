-- The tag, and the length's two bytes.
use Rattle.std.proofs.Common.{◌≡◌, ◌∙◌, ◌/◌, ◌%◌, arith, refl}
use Rattle.profile.proofs.header.put.Goals as goal

pub returns : goal.returns
returns c =
    let due = c.args.due in
    let high : due / 256 % 256 ≡ due / 256 = omega arith in
    c.copy_from_slice.ensures.after ∙ rw (c.to_be_bytes-length.ensures, high) refl

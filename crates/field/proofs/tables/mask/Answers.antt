-- Each entry is the rule's, by a test of the whole table.
use mathlib.Core.List.{List, [], ◌∷◌}
use Prim.Native.Nat.{ℕ}
use Rattle.field.specs.Words.{masks}
use Rattle.field.proofs.Entries.{entry}
use Rattle.field.proofs.tables.mask.Goals as goal

abbrev words : List ℕ
words =
    0x00000000 ∷ 0x000000ff ∷ 0x0000ff00 ∷ 0x0000ffff ∷
    0x00ff0000 ∷ 0x00ff00ff ∷ 0x00ffff00 ∷ 0x00ffffff ∷
    0xff000000 ∷ 0xff0000ff ∷ 0xff00ff00 ∷ 0xff00ffff ∷
    0xffff0000 ∷ 0xffff00ff ∷ 0xffffff00 ∷ 0xffffffff ∷ []

pub returns : goal.returns
unfolding masks
returns c = entry words (masks 4) tt c.args.n c.requires

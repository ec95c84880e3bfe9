-- Each entry is the rule's, by a test of the whole table.
use mathlib.Core.List.{List, [], ◌∷◌}
use Prim.Native.Nat.{ℕ, ◌*◌}
use Rattle.rules.specs.Field.{double}
use Rattle.field.specs.Words.{shifts, multiples}
use Rattle.field.proofs.Entries.{entry}
use Rattle.field.proofs.tables.high_multiples.Goals as goal

abbrev words : List ℕ
words =
    0x0000000000000000 ∷ 0xe8743a1d80402010 ∷ 0xcde8743a1d804020 ∷ 0x259c4e279dc06030 ∷
    0x87cde8743a1d8040 ∷ 0x6fb9d269ba5da050 ∷ 0x4a259c4e279dc060 ∷ 0xa251a653a7dde070 ∷
    0x1387cde8743a1d80 ∷ 0xfbf3f7f5f47a3d90 ∷ 0xde6fb9d269ba5da0 ∷ 0x361b83cfe9fa7db0 ∷
    0x944a259c4e279dc0 ∷ 0x7c3e1f81ce67bdd0 ∷ 0x59a251a653a7dde0 ∷ 0xb1d66bbbd3e7fdf0 ∷ []

pub returns : goal.returns
unfolding shifts double
returns c = entry words (λ n. multiples (n * 16)) tt c.args.n c.requires

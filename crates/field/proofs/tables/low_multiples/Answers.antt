-- Each entry is the rule's, by a test of the whole table.
use mathlib.Core.List.{List, [], ◌∷◌}
use Prim.Native.Nat.{ℕ}
use Rattle.rules.specs.Field.{double}
use Rattle.field.specs.Words.{shifts, multiples}
use Rattle.field.proofs.Entries.{entry}
use Rattle.field.proofs.tables.low_multiples.Goals as goal

abbrev words : List ℕ
words =
    0x0000000000000000 ∷ 0x8040201008040201 ∷ 0x1d80402010080402 ∷ 0x9dc06030180c0603 ∷
    0x3a1d804020100804 ∷ 0xba5da05028140a05 ∷ 0x279dc06030180c06 ∷ 0xa7dde070381c0e07 ∷
    0x743a1d8040201008 ∷ 0xf47a3d9048241209 ∷ 0x69ba5da05028140a ∷ 0xe9fa7db0582c160b ∷
    0x4e279dc06030180c ∷ 0xce67bdd068341a0d ∷ 0x53a7dde070381c0e ∷ 0xd3e7fdf0783c1e0f ∷ []

pub returns : goal.returns
unfolding shifts double
returns c = entry words (λ n. multiples n) tt c.args.n c.requires

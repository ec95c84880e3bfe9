-- What the crate's own functions answer: a field by its number, what its header says, what stands after the last field.
use Rattle.std.specs.Prelude.{not, List, [], ℕ, ◌+◌, ◌*◌, eqb, ltb, length, get_or}
use Rattle.rules.specs.Bits.{pick, row}
use Rattle.rules.specs.Profile.{Field, fields, no_more}
use Rattle.profile.specs.declared.fields.Field as declared

-- how many fields there are
abbrev pub many : ℕ
many = length fields

-- field i of the table, from 0; after the last one a field of which nothing is asked
abbrev pub none : Field
none = record { tag = 0; refusal = 0; due = λ p. 0; with = λ p s. p; tested = λ p. []; also = no_more; bytes = λ p. [] }

unfoldable pub field : ℕ → Field
field i = get_or fields i none

-- where a field of the code stands in the table, and its rule
abbrev pub place_of : declared.Field → ℕ
place_of declared.TheVariants.Masks = 0
place_of declared.TheVariants.Level = 1
place_of declared.TheVariants.Mode = 2
place_of declared.TheVariants.K = 3
place_of declared.TheVariants.Seeds = 4
place_of declared.TheVariants.Floor = 5

abbrev pub rule_of : declared.Field → Field
rule_of f = field (place_of f)

-- What the header at the front of s says: 0 where a whole field with this tag and this length stands there, else the number of the refusal
abbrev pub heading : ℕ → ℕ → List ℕ → ℕ
heading tag due s =
    pick (eqb (length s) 0) 5
    (pick (ltb (length s) 3) 1
    (pick (not (eqb (row s 0) tag)) 2
    (pick (not (eqb (row s 1 * 256 + row s 2) due)) 3
    (pick (ltb (length s) (3 + due)) 1 0))))

-- what the bytes after the last field say
abbrev pub ending : List ℕ → ℕ
ending s = pick (eqb (length s) 0) 0 (pick (ltb (length s) 3) 1 2)

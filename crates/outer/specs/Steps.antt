-- What the functions of this crate promise one another.
use Rattle.std.specs.Prelude.{◌≡◌, Bool, true, false, List, [], ℕ, suc, ◌<◌, ltb, length, get_or, Result, Ok, Err}
use Rattle.rules.specs.declared.OuterError.{OuterError}
use Rattle.rules.specs.declared.OuterError.TheVariants.{NoCodeword}
use Rattle.rules.specs.Bits.{pick, row}
use Rattle.rules.specs.Field.{◌⊕◌, ◌⊗◌}
use Rattle.rules.specs.Outer.{generator, column, marked, Codeword}
use Rattle.outer.specs.Solve.{tally, entry, solved}

-- f says the first n elements of the list l
abbrev pub Starts : ℕ → (ℕ → ℕ) → List ℕ → Type 0
Starts n f l = (i : ℕ) → i < n → row l i ≡ f i

-- f below n, and zero from there on
abbrev pub below : ℕ → (ℕ → ℕ) → ℕ → ℕ
below n f i = pick (ltb i n) (f i) 0

-- one step of the division by the generator: the register s, after the byte d
abbrev pub divided : ℕ → (ℕ → ℕ) → ℕ → ℕ → ℕ
divided r s d i = below r s (suc i) ⊕ (d ⊕ s 0) ⊗ generator r i

-- what a test says of P
abbrev pub Says : Type 0 → Bool → Type 0
Says P true = P
Says P false = ¬ P

-- c is written to column j, and nothing else
pub record Put (c : ℕ → ℕ) (j : ℕ) (before after : List ℕ) : Type 0 where
  pub long : length after ≡ 1952
  pub here : (p : ℕ) → p < 16 → column after j p ≡ c p
  pub there : (i : ℕ) → i < 122 → ¬ (i ≡ j) → (p : ℕ) → p < 16 → column after i p ≡ column before i p

-- the row of each lost packet below n: it is the one after those of the lost packets before it
abbrev pub Rows : ℕ → ℕ → ℕ → List (List ℕ) → Type 0
Rows n r lost m = (p : ℕ) → p < n → marked lost p ≡ 1 → Starts r (entry r lost p) (get_or m (tally (marked lost) p) [])

-- the first n columns of out are what is worked out, and codewords
abbrev pub Solved : ℕ → ℕ → ℕ → List ℕ → List ℕ → Type 0
Solved n r lost block out =
    (j : ℕ) → j < n → Codeword r (solved r lost (column block j)) × ((p : ℕ) → p < 16 → column out j p ≡ solved r lost (column block j) p)

-- all columns are, or some column has no codeword
abbrev pub Works : ℕ → ℕ → List ℕ → Result (List ℕ) OuterError → Type 0
Works r lost block (Ok out) = Solved 122 r lost block out
Works r lost block (Err e) = (e ≡ NoCodeword) × ((j : ℕ) × (j < 122) × (¬ Codeword r (solved r lost (column block j))))

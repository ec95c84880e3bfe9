-- The differences as they go into the lent list, one after the other.
use Rattle.std.specs.Prelude.{◌≡◌, List, ◌∷◌, ◌++◌, ℕ, ◌*◌, ◌/◌, ◌≤◌, length, min, take, drop}
use Rattle.rules.specs.Compare.{filled}

-- what a list will hold once the differences ds have gone in from `at` on
abbrev pub to_go : List (List ℕ) → ℕ → List ℕ → List ℕ
to_go ds at l = take at l ++ filled ds (drop at l)

-- the difference d has gone in, where it fits whole: the next goes in from at' on, and whatever follows, the list will hold the same
pub record Gone (before : List ℕ) (at : ℕ) (d after : List ℕ) (at' : ℕ) : Type 0 where
  pub long : length after ≡ length before
  pub inside : at' ≤ length after
  pub same : (ds : List (List ℕ)) → to_go (d ∷ ds) at before ≡ to_go ds at' after

-- where difference k has its place in a list of n numbers: behind the last whole place where it has none
abbrev pub place : ℕ → ℕ → ℕ
place n k = 6 * min k (n / 6)

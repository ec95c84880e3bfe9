-- Lists that are read.
use Rattle.std.specs.Prelude.{◌≡◌, refl, List, [], ◌∷◌, ℕ, zero, suc, ◌<◌, length, get_or}
use Rattle.std.proofs.Common.{le_of_suc-le-suc, arith}

module _ {A : Type 0} where
  -- what is read within a list goes by no default
  pub any-default : (l : List A) (i : ℕ) (d e : A) → i < length l → get_or l i d ≡ get_or l i e
  any-default [] i d e h = absurd (omega arith)
  any-default (x ∷ l) zero d e h = refl
  any-default (x ∷ l) (suc i) d e h = any-default l i d e (le_of_suc-le-suc h)

-- A fold over a list, by what it has made of the first k elements.
use mathlib.Core.Path.{◌≡◌, refl, sym, ap, ◌∙◌}
use mathlib.Core.List.{List}
use Prim.Native.Nat.{ℕ, zero, suc, ◌≤◌, ◌<◌}
use native.Mathlib.Nat.{le_refl}
use native.Mathlib.Omega.{arith}
use lib.ListN.{length, take}
use Rattle.std.specs.List.{fold}
use Rattle.std.proofs.Math.Seq.{take-suc, take-length}
use Rattle.std.proofs.lemmas.List.Sums.{fold_push}
use Rattle.rules.specs.Bits.{row}

module _ {B : Type 0} (f : B → ℕ → B) (g : ℕ → B) (l : List ℕ) (step : (k : ℕ) → k < length l → f (g k) (row l k) ≡ g (suc k)) where
  folded-first : (n : ℕ) → n ≤ length l → fold f (g 0) (take n l) ≡ g n
  folded-first zero le = refl
  folded-first (suc n) le =
      ap (fold f (g 0)) (take-suc l n 0 (omega arith)) ∙ fold_push f (g 0) (take n l) (row l n)
      ∙ ap (λ (s : B). f s (row l n)) (folded-first n (omega arith)) ∙ step n (omega arith)

  pub folded : fold f (g 0) l ≡ g (length l)
  folded = ap (fold f (g 0)) (sym (take-length l)) ∙ folded-first (length l) (le_refl (length l))
